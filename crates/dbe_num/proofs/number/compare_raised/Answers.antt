use Rattle.std.proofs.Common.{arith}
use Rattle.dbe_num.proofs.Compared.{cmp_far, pow_fits}
use Rattle.dbe_num.proofs.number.compare_raised.Goals as goal

pub returns-then-by-ge38 : goal.returns-then-by-ge38
returns-then-by-ge38 c = cmp_far c.args.digits c.args.by c.args.other c.if-digits-eq0.false c.if-by-ge38.true c.requires

pub pow-requires : goal.pow-requires
pow-requires c = pow_fits c.from.result (omega arith)
