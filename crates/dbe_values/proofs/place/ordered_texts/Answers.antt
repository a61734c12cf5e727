use Rattle.std.proofs.Common.{string_bytes}
use Rattle.dbe_values.proofs.Ordered.{made_rise}
use Rattle.dbe_values.proofs.place.ordered_texts.Goals as goal

pub returns-clause-rises : goal.returns-clause-rises
returns-clause-rises c = made_rise string_bytes c.args.texts.keys c.loop-text.text-iterator c.loop-text.ordered.items
    c.len.ensures.ordered c.in-None.ensures.steps.0 c.loop-text.invariant
