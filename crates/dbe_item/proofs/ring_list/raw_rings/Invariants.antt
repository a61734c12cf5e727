use Rattle.std.proofs.Common.{◌≡◌, take}
use Rattle.dbe_item.specs.Sealed.{raw_rings}
use Rattle.dbe_item.proofs.ring_list.raw_rings.Given as goal

abbrev pub invariant-loop-recipient : goal.invariant-loop-recipient
invariant-loop-recipient l = l.rings.items ≡ raw_rings (take l.recipient-index l.recipients)
