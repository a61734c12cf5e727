use Rattle.dbe_item.proofs.Seeking.{EdksLeft}
use Rattle.dbe_item.proofs.seek.seek.Given as goal

abbrev pub invariant-loop-i : goal.invariant-loop-i
invariant-loop-i l = EdksLeft l.rings l.context l.edks l.i
