use Rattle.dbe_item.proofs.Seeking.{rings_next}
use Rattle.dbe_item.proofs.seek.first_ring.Goals as goal

pub loop-i-preserved : goal.loop-i-preserved
loop-i-preserved c =
    rings_next c.args.rings.now c.args.context.now c.args.edk.now c.loop-i.i c.index-rings-i.result c.loop-i-test.true
    c.index-rings-i.is c.loop-i.invariant c.in_default.ensures.none
