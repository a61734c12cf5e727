use Rattle.std.proofs.Common.{◌≡◌, ◌-◌}
use Rattle.dbe_canon.specs.Reading.{many_at, element_at, binary_in}
use Rattle.dbe_canon.proofs.Loops.{behind}
use Rattle.dbe_canon.proofs.sets.binaries_at.Given as goal

abbrev pub invariant-loop : goal.invariant-loop
invariant-loop l = behind l.binaries (many_at (element_at binary_in) (l.count - l.counter) l.rest) ≡ many_at
    (element_at binary_in) l.count l.bytes
