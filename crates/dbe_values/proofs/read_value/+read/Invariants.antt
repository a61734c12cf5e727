use Rattle.std.proofs.Common.{◌≡◌, ◌+◌, ◌*◌, ◌++◌, drop, map}
use Rattle.serde_json.specs.View.{items_view, members_view}
use Rattle.dbe_values.specs.View.{view, vals_of, entries_of, entry_view}
use Rattle.dbe_values.specs.Reading.{values_in, entries_in}
use Rattle.dbe_values.specs.Lawful.{AreLawful, AreLawfulEntries, names_of}
use Rattle.dbe_values.proofs.LawfulValues.{member_names}
use Rattle.dbe_values.proofs.ReadValues.{after_vals, after_entries}
use Rattle.dbe_values.proofs.read_value.+read.Given as goal

abbrev pub invariant-values_in-loop-item : goal.invariant-values_in-loop-item
invariant-values_in-loop-item l = record {
  so_far : after_vals (map view l.values) (values_in l.left (items_view (drop l.item-index l.items))) ≡ values_in
      l.left (items_view l.items);
  lawful : AreLawful l.left (vals_of (map view l.values));
}

abbrev pub invariant-entries_in-loop-name : goal.invariant-entries_in-loop-name
invariant-entries_in-loop-name l = record {
  so_far : after_entries (map entry_view l.entries) (entries_in l.left (members_view l.name-iterator)) ≡ entries_in
      l.left (members_view l.members.entries);
  lawful : AreLawfulEntries l.left (entries_of (map entry_view l.entries));
  names : names_of l.entries ++ member_names l.name-iterator ≡ member_names l.members.entries;
}

abbrev pub decreases-value_in : goal.decreases-value_in
decreases-value_in l = 3 * l.left + 2

abbrev pub decreases-list_in : goal.decreases-list_in
decreases-list_in l = 3 * l.left + 1

abbrev pub decreases-map_in : goal.decreases-map_in
decreases-map_in l = 3 * l.left + 1

abbrev pub decreases-values_in : goal.decreases-values_in
decreases-values_in l = 3 * l.left + 3

abbrev pub decreases-entries_in : goal.decreases-entries_in
decreases-entries_in l = 3 * l.left + 3
