use Rattle.dbe_tokens.proofs.Cuts.{cut_unique}
use Rattle.dbe_tokens.proofs.cutting.one_cut.Goals as goal

pub returns : goal.returns
returns c = cut_unique
