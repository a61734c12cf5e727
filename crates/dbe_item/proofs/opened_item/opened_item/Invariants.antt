use Rattle.std.proofs.Common.{◌≡◌, take}
use Rattle.dbe_item.specs.Opening.{opened_attributes}
use Rattle.dbe_item.proofs.opened_item.opened_item.Given as goal

abbrev pub invariant-loop-i : goal.invariant-loop-i
invariant-loop-i l = l.item ≡ opened_attributes l.names l.values (take l.i l.row)
