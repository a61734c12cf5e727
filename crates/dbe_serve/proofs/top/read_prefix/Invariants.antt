use Rattle.std.proofs.Common.{◌+◌, ◌-◌, ◌≤◌, ◌≡◌, vec_len}
use Rattle.std.specs.Io.KnownBytes.{Consumes}
use Rattle.dbe_serve.specs.declared.top.TheConstants.{MOST_CONFIG_BYTES}
use Rattle.dbe_serve.proofs.top.read_prefix.Given as goal

abbrev pub invariant-reads : goal.invariant-reads
invariant-reads g l = record {
  prefix : Consumes (g.C.Source.left l.fn.source) (g.C.Source.left l.source) l.bytes.items;
  few : vec_len l.bytes ≤ MOST_CONFIG_BYTES + 1;
  faults : g.C.Source.faults l.source ≡ g.C.Source.faults l.fn.source;
}

abbrev pub decreases-reads : goal.decreases-reads
decreases-reads g l = MOST_CONFIG_BYTES + 1 - vec_len l.bytes
