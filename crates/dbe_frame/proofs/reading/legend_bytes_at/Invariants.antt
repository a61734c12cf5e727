use Rattle.std.proofs.Common.{◌≡◌, ◌-◌}
use Rattle.dbe_frame.specs.Header.{is_legend_byte}
use Rattle.dbe_frame.specs.Reading.{byte_at, many_at}
use Rattle.dbe_frame.proofs.Loops.{behind}
use Rattle.dbe_frame.proofs.reading.legend_bytes_at.Given as goal

abbrev pub invariant-loop : goal.invariant-loop
invariant-loop l = behind l.legend.items (many_at (byte_at (is_legend_byte l.version)) (l.count - l.counter) l.rest) ≡
    many_at (byte_at (is_legend_byte l.version)) l.count l.bytes
