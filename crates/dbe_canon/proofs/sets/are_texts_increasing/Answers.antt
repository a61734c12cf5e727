use Rattle.std.proofs.Common.{arith}
use Rattle.dbe_canon.proofs.Orders.{all_compared}
use Rattle.dbe_canon.proofs.sets.are_texts_increasing.Goals as goal

pub returns : goal.returns
returns c = all_compared c.args.texts.now c.loop-i.i _ (omega arith) c.loop-i.invariant
