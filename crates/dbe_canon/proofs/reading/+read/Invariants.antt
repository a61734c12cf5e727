use Rattle.std.proofs.Common.{◌≡◌, ◌+◌, ◌*◌, ◌-◌, map}
use Rattle.dbe_values.specs.View.{view, entry_view}
use Rattle.dbe_canon.specs.Reading.{many_at, value_at, entry_at, value_in}
use Rattle.dbe_canon.proofs.Loops.{behind}
use Rattle.dbe_canon.proofs.reading.+read.Given as goal

abbrev pub invariant-values_at-loop : goal.invariant-values_at-loop
invariant-values_at-loop l = behind (map view l.values) (many_at (value_at (value_in l.left)) (l.count - l.counter)
    l.rest) ≡ many_at (value_at (value_in l.left)) l.count l.bytes

abbrev pub invariant-entries_at-loop : goal.invariant-entries_at-loop
invariant-entries_at-loop l =
    behind (map entry_view l.entries) (many_at (entry_at (value_in l.left)) (l.count - l.counter) l.rest) ≡ many_at
    (entry_at (value_in l.left)) l.count l.bytes

abbrev pub decreases-list_in : goal.decreases-list_in
decreases-list_in l = 8 * l.left + 1

abbrev pub decreases-map_in : goal.decreases-map_in
decreases-map_in l = 8 * l.left + 1

abbrev pub decreases-value_of : goal.decreases-value_of
decreases-value_of l = 8 * l.left + 2

abbrev pub decreases-value_in : goal.decreases-value_in
decreases-value_in l = 8 * l.left + 3

abbrev pub decreases-value_at : goal.decreases-value_at
decreases-value_at l = 8 * l.left + 4

abbrev pub decreases-entry_at : goal.decreases-entry_at
decreases-entry_at l = 8 * l.left + 5

abbrev pub decreases-values_at : goal.decreases-values_at
decreases-values_at l = 8 * l.left + 6

abbrev pub decreases-entries_at : goal.decreases-entries_at
decreases-entries_at l = 8 * l.left + 6

abbrev pub decreases-list_of : goal.decreases-list_of
decreases-list_of l = 8 * l.left + 7

abbrev pub decreases-map_of : goal.decreases-map_of
decreases-map_of l = 8 * l.left + 7
