use Rattle.std.proofs.Common.{◌≡◌, ◌++◌, drop, length}
use Rattle.dbe_canon.specs.Canon.{count_bytes}
use Rattle.dbe_canon.proofs.Appending.{values_spelled, entries_spelled}
use Rattle.dbe_canon.proofs.writing.+write.Given as goal

abbrev pub invariant-put_values-loop-value : goal.invariant-put_values-loop-value
invariant-put_values-loop-value l = l.out.items ++ values_spelled (drop l.value-index l.values) ≡ l.fn.out.items ++
    (count_bytes (length l.values) ++ values_spelled l.values)

abbrev pub invariant-put_entries-loop-entry : goal.invariant-put_entries-loop-entry
invariant-put_entries-loop-entry l = l.out.items ++ entries_spelled (drop l.entry-index l.entries) ≡ l.fn.out.items ++
    (count_bytes (length l.entries) ++ entries_spelled l.entries)
