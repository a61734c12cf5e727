use Rattle.std.proofs.Common.{arith, sym, ◌∙◌, ◌-◌}
use Rattle.dbe_gcm.proofs.Products.{sum_more, sum_all}
use Rattle.dbe_gcm.proofs.product.product.Goals as goal

pub loop-i-preserved : goal.loop-i-preserved
loop-i-preserved c = rw (
  c.times_x-power.ensures,
  c.added-sum.ensures,
) (sym (sum_more _ _ _ (127 - c.loop-i.i) _ _ (omega arith) (omega arith)) ∙ c.loop-i.invariant)

pub returns : goal.returns
returns c = sum_all _ _ c.loop-i.power _ (128 - c.loop-i.i) (omega arith) c.loop-i.invariant
