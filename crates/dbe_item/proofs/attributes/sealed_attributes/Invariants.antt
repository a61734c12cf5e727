use Rattle.std.proofs.Common.{◌≡◌, map, take}
use Rattle.dbe_item.specs.Sealed.{sealed_attribute}
use Rattle.dbe_item.proofs.attributes.sealed_attributes.Given as goal

abbrev pub invariant-loop-i : goal.invariant-loop-i
invariant-loop-i l = l.row ≡ map (sealed_attribute l.config l.keys.root l.names) (take l.i l.item)
