use Rattle.std.proofs.Common.{◌≡◌, ◌-◌}
use Rattle.dbe_frame.specs.Reading.{edk_at, many_at}
use Rattle.dbe_frame.proofs.Loops.{behind}
use Rattle.dbe_frame.proofs.reading.edk_list_at.Given as goal

abbrev pub invariant-loop : goal.invariant-loop
invariant-loop l = behind l.edks.items (many_at edk_at (l.count - l.counter) l.rest) ≡ many_at edk_at l.count l.bytes
