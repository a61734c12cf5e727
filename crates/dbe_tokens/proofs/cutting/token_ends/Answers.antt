use Rattle.dbe_tokens.proofs.TokenEnds.{ends}
use Rattle.dbe_tokens.proofs.cutting.token_ends.Goals as goal

pub returns : goal.returns
returns c = ends
