use Rattle.std.proofs.Common.{◌-◌, map, arith}
use Rattle.dbe_canon.proofs.Orders.{all_compared, names_length, compared_true, compared_false, name_at}
use Rattle.dbe_canon.proofs.reading.are_names_increasing.Goals as goal

pub returns-then-not-is_below : goal.returns-then-not-is_below
returns-then-not-is_below c =
    compared_false (map (λ e. e.0) c.args.entries.now) c.loop-i.i c.as_bytes.result.now
    c.as_bytes-in-loop-i.result.now c.is_below.result _ (omega arith) (omega (
      arith,
      names_length c.args.entries.now,
    )) (name_at c.args.entries.now (c.loop-i.i - 1) c.index-entries-i.result _
    (omega arith) c.as_bytes.ensures) (name_at c.args.entries.now c.loop-i.i c.index-entries-i-in-loop-i.result _
    (omega arith) c.as_bytes-in-loop-i.ensures) c.is_below.ensures c.if-not-is_below.true c.loop-i.invariant

pub loop-i-preserved : goal.loop-i-preserved
loop-i-preserved c =
    compared_true (map (λ e. e.0) c.args.entries.now) c.loop-i.i c.as_bytes.result.now c.as_bytes-in-loop-i.result.now
    c.is_below.result _ (omega arith) (omega (arith, names_length c.args.entries.now)) (name_at c.args.entries.now
    (c.loop-i.i - 1) c.index-entries-i.result _ (omega arith) c.as_bytes.ensures) (name_at c.args.entries.now
    c.loop-i.i c.index-entries-i-in-loop-i.result _ (omega arith) c.as_bytes-in-loop-i.ensures) c.is_below.ensures
    c.if-not-is_below.false c.loop-i.invariant

pub returns : goal.returns
returns c = all_compared (map (λ e. e.0) c.args.entries.now) c.loop-i.i _ (omega (
  arith,
  names_length c.args.entries.now,
)) c.loop-i.invariant
