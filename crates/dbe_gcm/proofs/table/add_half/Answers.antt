use Rattle.std.proofs.Common.{◌≡◌, ◌+◌, arith, refl}
use Rattle.dbe_gcm.proofs.Nibbles.{half_more, half_all}
use Rattle.dbe_gcm.proofs.table.add_half.Goals as goal

pub loop-i-init : goal.loop-i-init
loop-i-init c = λ h table. let e : c.args.first + 0 ≡ c.args.first = omega arith in rw e refl

pub loop-i-preserved : goal.loop-i-preserved
loop-i-preserved c = λ h table. half_more h c.args.table.now c.args.first c.loop-i.i c.args.bits c.loop-i.sum _ table
    (omega arith) (omega arith) (c.loop-i.invariant h table)

pub returns : goal.returns
returns c = λ h table. half_all h c.loop-i.sum c.args.first c.loop-i.i c.args.bits _ (omega arith)
    (c.loop-i.invariant h table)
