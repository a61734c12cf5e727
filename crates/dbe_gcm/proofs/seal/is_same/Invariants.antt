use Rattle.dbe_gcm.proofs.Tags.{Tells}
use Rattle.dbe_gcm.proofs.seal.is_same.Given as goal

abbrev pub invariant-loop-i : goal.invariant-loop-i
invariant-loop-i l = Tells l.a l.b l.i l.difference
