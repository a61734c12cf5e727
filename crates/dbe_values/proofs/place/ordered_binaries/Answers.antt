use Rattle.std.proofs.Common.{vec_items}
use Rattle.dbe_values.proofs.Ordered.{made_rise}
use Rattle.dbe_values.proofs.place.ordered_binaries.Goals as goal

pub returns-clause-rises : goal.returns-clause-rises
returns-clause-rises c = made_rise vec_items c.args.binaries.keys c.loop-binary.binary-iterator
    c.loop-binary.ordered.items c.len.ensures.ordered c.in-None.ensures.steps.0 c.loop-binary.invariant
