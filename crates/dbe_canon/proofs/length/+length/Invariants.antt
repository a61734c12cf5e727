use Rattle.std.proofs.Common.{◌≡◌, ◌+◌, ◌-◌, ◌^◌, ◌<◌, min, drop, length}
use Rattle.dbe_canon.proofs.Appending.{values_spelled, entries_spelled}
use Rattle.dbe_canon.proofs.length.+length.Given as goal

abbrev pub invariant-values_len-loop-value : goal.invariant-values_len-loop-value
invariant-values_len-loop-value l = record {
  counted : min (l.total + length (values_spelled (drop l.value-index l.values))) (2 ^ 64 - 1) ≡ min
      (length (values_spelled l.values)) (2 ^ 64 - 1);
  fits : l.total < 2 ^ 64;
}

abbrev pub invariant-entries_len-loop-entry : goal.invariant-entries_len-loop-entry
invariant-entries_len-loop-entry l = record {
  counted : min (l.total + length (entries_spelled (drop l.entry-index l.entries))) (2 ^ 64 - 1) ≡ min
      (length (entries_spelled l.entries)) (2 ^ 64 - 1);
  fits : l.total < 2 ^ 64;
}
