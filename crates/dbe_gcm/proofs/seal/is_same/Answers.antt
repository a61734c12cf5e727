use Rattle.std.proofs.Common.{arith, get_or, eq-eqb, eqb-true, ap}
use Rattle.dbe_gcm.proofs.Tags.{tells_none, tells_more, same_list}
use Rattle.dbe_gcm.proofs.seal.is_same.Goals as goal

pub loop-i-init : goal.loop-i-init
loop-i-init c = tells_none c.args.a.now c.args.b.now

pub loop-i-preserved : goal.loop-i-preserved
loop-i-preserved c = tells_more c.args.a.now c.args.b.now c.loop-i.i c.loop-i.difference c.loop-i.invariant

pub returns : goal.returns
returns c = (
  (λ h. same_list c.args.a.now c.args.b.now c.told-a c.told-b (λ k lt. c.loop-i.invariant.same (eqb-true _ _ h) k
      (omega arith))),
  (λ e. eq-eqb _ _ (c.loop-i.invariant.none (λ k lt. ap (λ s. get_or s k 0) e))),
)
