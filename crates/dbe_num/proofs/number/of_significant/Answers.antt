use Rattle.std.proofs.Common.{◌++◌, arith, length-append}
use Rattle.dbe_num.proofs.Significant.{significant_is_normal}
use Rattle.dbe_num.proofs.number.of_significant.Goals as goal

pub at_place-requires-clause-normal : goal.at_place-requires-clause-normal
at_place-requires-clause-normal c =
    significant_is_normal c.args.negative (c.args.whole.now ++ c.args.fraction.now) c.number_in.result c.args.raised
    c.args.lowered c.number_in.ensures c.requires.digits c.requires.front c.requires.end (omega (
      arith,
      length-append c.args.whole.now c.args.fraction.now,
    )) (omega (
      arith,
      length-append c.args.whole.now c.args.fraction.now,
    )) (omega (
      arith,
      length-append c.args.whole.now c.args.fraction.now,
    )) (omega (
      arith,
      length-append c.args.whole.now c.args.fraction.now,
    ))
