use Rattle.dbe_item.proofs.Ringed.{rings_more}
use Rattle.dbe_item.proofs.ring_list.raw_rings.Goals as goal

pub loop-recipient-preserved : goal.loop-recipient-preserved
loop-recipient-preserved c = rings_more c.args.recipients.now c.loop-recipient.recipient-index c.recipient-item.result
    c.loop-recipient.rings.items c.push_ring.new.rings.items c.loop-recipient-test.true c.recipient-item.is
    c.loop-recipient.invariant c.in_ok-push_ring.ensures
