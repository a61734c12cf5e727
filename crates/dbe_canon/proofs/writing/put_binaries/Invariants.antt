use Rattle.std.proofs.Common.{◌≡◌, ◌++◌, drop, length}
use Rattle.dbe_canon.specs.Canon.{count_bytes, long_strings}
use Rattle.dbe_canon.proofs.writing.put_binaries.Given as goal

abbrev pub invariant-loop-bytes : goal.invariant-loop-bytes
invariant-loop-bytes l = l.out.items ++ long_strings (drop l.bytes-index l.binaries) ≡ l.fn.out.items ++
    (count_bytes (length l.binaries) ++ long_strings l.binaries)
