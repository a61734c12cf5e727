use Rattle.dbe_canon.proofs.ShortParts.{has_short_parts}
use Rattle.dbe_canon.proofs.laws.short_parts.Goals as goal

pub returns : goal.returns
returns c = has_short_parts
