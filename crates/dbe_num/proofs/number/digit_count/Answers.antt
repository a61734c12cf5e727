use Rattle.std.proofs.Common.{arith}
use Rattle.dbe_num.proofs.Lengths.{counted_more, counted_all, few_counted, few_digits}
use Rattle.dbe_num.proofs.number.digit_count.Goals as goal

pub overflow_add-count : goal.overflow_add-count
overflow_add-count c = omega (
  arith,
  few_counted c.args.digits c.loop-rest.rest c.loop-rest.count (omega arith)
      c.loop-rest.invariant.counted,
)

pub loop-rest-preserved : goal.loop-rest-preserved
loop-rest-preserved c = record {
  counted = counted_more c.args.digits c.loop-rest.rest c.loop-rest.count c.loop-rest-test.true (omega arith)
      c.loop-rest.invariant.counted;
  low = omega arith;
}

pub returns-clause-count : goal.returns-clause-count
returns-clause-count c = counted_all c.args.digits c.loop-rest.rest c.loop-rest.count c.loop-rest-test.false
    c.loop-rest.invariant.counted

pub returns-clause-few : goal.returns-clause-few
returns-clause-few c =
    omega (
      arith,
      few_digits c.args.digits (omega arith),
      counted_all c.args.digits c.loop-rest.rest c.loop-rest.count
          c.loop-rest-test.false c.loop-rest.invariant.counted,
    )
