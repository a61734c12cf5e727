use Rattle.std.proofs.Common.{ap, drop, ◌∙◌}
use Rattle.dbe_fields.proofs.Lists.{drop_of_take}
use Rattle.dbe_fields.proofs.characters.Characters.part.Goals as goal

pub returns : goal.returns
returns c = c.after.ensures ∙ ap (drop c.args.from) c.first.ensures ∙
    drop_of_take c.args.from c.args.to c.args.self c.requires.order
