use Rattle.std.proofs.Common.{◌≡◌, ℕ, List, Some}
use Rattle.dbe_serve.proofs.ArgumentsRead.{AreReadTo}
use Rattle.dbe_serve.proofs.arguments.read_arguments.Given as goal

abbrev pub invariant-places : goal.invariant-places
invariant-places g l = (told : List (List ℕ)) → g.A.Arguments.given l.fn.arguments ≡ Some told →
    AreReadTo told l.place l.read.items
