use Rattle.std.proofs.Common.{◌≡◌, ◌-◌, drop}
use Rattle.dbe_canon.specs.Reading.{is_increasing}
use Rattle.dbe_canon.proofs.sets.are_binaries_increasing.Given as goal

abbrev pub invariant-loop-i : goal.invariant-loop-i
invariant-loop-i l = is_increasing (drop (l.i - 1) l.binaries) ≡ is_increasing l.binaries
