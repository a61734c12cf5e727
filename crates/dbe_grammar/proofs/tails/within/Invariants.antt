use Rattle.std.proofs.Common.{◌<◌, length}
use Rattle.dbe_grammar.proofs.AfterOperand.{ListSoFar}
use Rattle.dbe_grammar.proofs.tails.within.Given as goal

abbrev pub invariant-loop-more : goal.invariant-loop-more
invariant-loop-more l = record { so_far : ListSoFar l.tokens l.list l.rest; shorter : length l.rest < length l.tokens }

abbrev pub decreases-loop-more : goal.decreases-loop-more
decreases-loop-more l = length l.rest
