use Rattle.std.proofs.Common.{◌≡◌, drop, map}
use Rattle.serde_json.specs.Data.{no_members}
use Rattle.serde_json.specs.View.{members_view}
use Rattle.dbe_values.specs.View.{view, vals_of, entries_of, entry_view}
use Rattle.dbe_values.specs.Writing.{vals_data, with_entries}
use Rattle.dbe_values.proofs.Members.{items_onto}
use Rattle.dbe_values.proofs.write.+write.Given as goal

abbrev pub invariant-values_to_json-loop-item : goal.invariant-values_to_json-loop-item
invariant-values_to_json-loop-item l =
    items_onto l.out.items (vals_data (vals_of (map view (drop l.item-index l.items)))) ≡ vals_data
    (vals_of (map view l.items))

abbrev pub invariant-entries_to_json-loop-entry : goal.invariant-entries_to_json-loop-entry
invariant-entries_to_json-loop-entry l =
    with_entries (members_view l.out.entries) (entries_of (map entry_view (drop l.entry-index l.entries))) ≡
    with_entries no_members (entries_of (map entry_view l.entries))
