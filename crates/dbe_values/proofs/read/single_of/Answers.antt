use Rattle.std.proofs.Common.{◌∙◌}
use Rattle.serde_json.specs.View.{view}
use Rattle.dbe_values.proofs.Known.{not_single}
use Rattle.dbe_values.proofs.read.single_of.Goals as goal

pub returns-then-size_of-ne1 : goal.returns-then-size_of-ne1
returns-then-size_of-ne1 c = not_single (view c.args.value.now) (λ e. c.if-size_of-ne1.true (c.size_of.ensures ∙ e))
