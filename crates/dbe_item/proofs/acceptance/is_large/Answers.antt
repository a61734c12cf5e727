use Rattle.std.proofs.Common.{◌<◌, arith, sum_by}
use Rattle.dbe_item.specs.Acceptance.{attribute_size}
use Rattle.dbe_item.proofs.Walks.{sum_at, past_limit}
use Rattle.dbe_item.proofs.acceptance.is_large.Goals as goal

pub returns-then-more-size : goal.returns-then-more-size
returns-then-more-size c =
    let at = sum_at attribute_size c.args.item.now c.loop-i.i (c.at.result.0.now, c.at.result.1.now) c.at.ensures in
    let past : 409600 < sum_by attribute_size c.args.item.now = omega (
      arith,
      at,
      c.loop-i.invariant.sum,
      c.attribute_size-more.ensures,
    ) in
    past_limit _ _ past

pub loop-i-preserved : goal.loop-i-preserved
loop-i-preserved c =
    let at = sum_at attribute_size c.args.item.now c.loop-i.i (c.at.result.0.now, c.at.result.1.now) c.at.ensures in
    record {
      sum = omega (arith, at, c.loop-i.invariant.sum, c.attribute_size-more.ensures, c.if-more-size.false);
      small = omega (arith, c.if-more-size.false);
    }
