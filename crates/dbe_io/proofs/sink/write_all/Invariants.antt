use Rattle.std.proofs.Common.{◌≡◌, false, length, take, ◌-◌, ◌≤◌, ◌<◌}
use Rattle.std.specs.Io.KnownBytes.{Appends}
use Rattle.dbe_io.proofs.sink.write_all.Given as goal

abbrev pub invariant-pieces : goal.invariant-pieces
invariant-pieces g l = record {
  within : l.at ≤ length l.bytes;
  front : Appends (g.O.Sink.written l.fn.sink) (g.O.Sink.written l.sink) (take l.at l.bytes);
  faults : g.O.Sink.faults l.sink ≡ g.O.Sink.faults l.fn.sink;
  unfinished : 0 < l.at → g.O.Sink.finished l.sink ≡ false;
  untouched : l.at ≡ 0 → l.sink ≡ l.fn.sink;
  idle : g.O.Sink.idle l.sink ≡ g.O.Sink.idle l.fn.sink;
}

abbrev pub decreases-pieces : goal.decreases-pieces
decreases-pieces g l = length l.bytes - l.at
