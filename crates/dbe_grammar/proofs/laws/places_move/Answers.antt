use Rattle.dbe_grammar.proofs.MovedTrees.{cond_moved}
use Rattle.dbe_grammar.proofs.laws.places_move.Goals as goal

pub returns : goal.returns
returns c = cond_moved
