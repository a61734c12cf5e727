use Rattle.std.proofs.Common.{◌≡◌, ◌++◌, map, vec_items}
use Rattle.dbe_values.proofs.place.ordered_binaries.Given as goal

abbrev pub invariant-loop-binary : goal.invariant-loop-binary
invariant-loop-binary l = l.ordered.items ++ map vec_items l.binary-iterator ≡ map vec_items l.fn.binaries.keys
