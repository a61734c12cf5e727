use Rattle.std.proofs.Common.{◌≡◌, take}
use Rattle.dbe_values.proofs.sets.copy_binaries.Given as goal

abbrev pub invariant-loop-bytes : goal.invariant-loop-bytes
invariant-loop-bytes l = l.copies ≡ take l.bytes-index l.binaries
