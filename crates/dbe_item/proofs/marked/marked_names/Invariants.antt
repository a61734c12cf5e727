use Rattle.std.proofs.Common.{◌≡◌, take}
use Rattle.dbe_item.specs.Names.{marked}
use Rattle.dbe_item.proofs.marked.marked_names.Given as goal

abbrev pub invariant-loop-i : goal.invariant-loop-i
invariant-loop-i l = l.encrypted.items ≡ marked (take l.i l.names) (take l.i l.legend)
