use Rattle.dbe_values.proofs.SameValues.{elements_apart}
use Rattle.dbe_values.proofs.value.equal_texts.Goals as goal

pub returns-then-xs-ys : goal.returns-then-xs-ys
returns-then-xs-ys c = elements_apart c.args.xs.now c.args.ys.now c.if-xs-ys.true
