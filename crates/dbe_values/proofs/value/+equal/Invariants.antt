use Rattle.std.proofs.Common.{◌≡◌, drop, map}
use Rattle.dbe_values.specs.Val.{same_vals, same_entries}
use Rattle.dbe_values.specs.View.{view, vals_of, entries_of, entry_view}
use Rattle.dbe_values.proofs.value.+equal.Given as goal

abbrev pub invariant-equal_items-loop-i : goal.invariant-equal_items-loop-i
invariant-equal_items-loop-i l =
    same_vals (vals_of (map view (drop l.i l.xs))) (vals_of (map view (drop l.i l.ys))) ≡ same_vals
    (vals_of (map view l.xs)) (vals_of (map view l.ys))

abbrev pub invariant-equal_entries-loop-i : goal.invariant-equal_entries-loop-i
invariant-equal_entries-loop-i l =
    same_entries (entries_of (map entry_view (drop l.i l.xs))) (entries_of (map entry_view (drop l.i l.ys))) ≡
    same_entries (entries_of (map entry_view l.xs)) (entries_of (map entry_view l.ys))
