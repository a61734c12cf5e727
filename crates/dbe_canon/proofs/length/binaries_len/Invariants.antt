use Rattle.std.proofs.Common.{◌≡◌, ◌+◌, ◌-◌, ◌^◌, ◌<◌, min, drop, length}
use Rattle.dbe_canon.specs.Canon.{long_strings}
use Rattle.dbe_canon.proofs.length.binaries_len.Given as goal

abbrev pub invariant-loop-bytes : goal.invariant-loop-bytes
invariant-loop-bytes l = record {
  counted : min (l.total + length (long_strings (drop l.bytes-index l.binaries))) (2 ^ 64 - 1) ≡ min
      (length (long_strings l.binaries)) (2 ^ 64 - 1);
  fits : l.total < 2 ^ 64;
}
