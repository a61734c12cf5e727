use Rattle.std.proofs.Common.{◌≡◌, ◌++◌, map}
use Rattle.serde_json.specs.View.{members_view}
use Rattle.dbe_values.specs.View.{entry_view}
use Rattle.dbe_values.specs.Items.{attributes_in}
use Rattle.dbe_values.specs.Lawful.{names_of}
use Rattle.dbe_values.proofs.LawfulValues.{member_names}
use Rattle.dbe_values.proofs.ReadItems.{after_attributes}
use Rattle.dbe_values.proofs.read_item.attributes_in.Given as goal

abbrev pub invariant-loop-key : goal.invariant-loop-key
invariant-loop-key l = record {
  so_far : after_attributes (map entry_view l.item) (attributes_in (members_view l.key-iterator)) ≡ attributes_in
      (members_view l.members.entries);
  names : names_of l.item ++ member_names l.key-iterator ≡ member_names l.members.entries;
}
