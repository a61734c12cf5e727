use Rattle.dbe_grammar.proofs.LeavesOfTokens.{cond_passes}
use Rattle.dbe_grammar.proofs.laws.leaves.Goals as goal

pub returns : goal.returns
returns c = cond_passes
