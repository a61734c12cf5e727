use Rattle.std.proofs.Common.{◌≡◌, drop}
use Rattle.dbe_values.specs.Val.{same_elements}
use Rattle.dbe_values.proofs.value.equal_binaries.Given as goal

abbrev pub invariant-loop-i : goal.invariant-loop-i
invariant-loop-i l = same_elements (drop l.i l.xs) (drop l.i l.ys) ≡ same_elements l.xs l.ys
