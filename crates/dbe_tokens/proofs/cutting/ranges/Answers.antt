use Rattle.dbe_tokens.proofs.TokenRanges.{cut_ranges}
use Rattle.dbe_tokens.proofs.cutting.ranges.Goals as goal

pub returns : goal.returns
returns c = cut_ranges
