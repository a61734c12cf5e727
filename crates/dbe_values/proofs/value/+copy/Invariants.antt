use Rattle.std.proofs.Common.{◌≡◌, take}
use Rattle.dbe_values.proofs.value.+copy.Given as goal

abbrev pub invariant-copy_items-loop-item : goal.invariant-copy_items-loop-item
invariant-copy_items-loop-item l = l.copies ≡ take l.item-index l.items

abbrev pub invariant-copy_entries-loop-entry : goal.invariant-copy_entries-loop-entry
invariant-copy_entries-loop-entry l = l.copies ≡ take l.entry-index l.entries
