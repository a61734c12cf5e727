use Rattle.dbe_cond.proofs.Shapes.{shapes_more}
use Rattle.dbe_cond.proofs.shape.+shape.Goals as goal

pub shapes-loop-cond-preserved : goal.shapes-loop-cond-preserved
shapes-loop-cond-preserved t c =
    shapes_more c.loop-cond.trees c.push.new.self c.in_ok-shape.field-0 c.args.conds.now c.loop-cond.cond-index
    c.cond-item.result c.loop-cond-test.true c.cond-item.is c.in_ok-push.ensures.ok c.in_ok-shape.ensures
    c.loop-cond.invariant
