use Rattle.dbe_item.proofs.Seeking.{RingsLeft}
use Rattle.dbe_item.proofs.seek.first_ring.Given as goal

abbrev pub invariant-loop-i : goal.invariant-loop-i
invariant-loop-i l = RingsLeft l.rings l.context l.edk l.i
