use Rattle.std.proofs.Common.{◌≡◌, List, ℕ, option_and_then, ap, ◌∙◌}
use Rattle.std.specs.declared.option.Option.{Option}
use Rattle.std.proofs.lemmas.Result.{IfOk-weaker}
use Rattle.dbe_fields.specs.Texts.{value_text}
use Rattle.dbe_fields.specs.Virtuals.{virtual_text, field_value}
use Rattle.dbe_fields.proofs.Joining.{field_text_is}
use Rattle.dbe_fields.proofs.virtuals.field_text.Goals as goal

pub returns-in-Some : goal.returns-in-Some
returns-in-Some c =
    let item = c.args.item.now in
    let is = ap (virtual_text item) c.as_slice.ensures ∙ field_text_is c.args.config.now c.args.name.now item
    c.in-Some.field.now c.in-Some.ensures in
    IfOk-weaker c.virtual_text.result (λ (o : Option (List ℕ)). o ≡ virtual_text item c.as_slice.result.now)
    (λ (o : Option (List ℕ)). o ≡ option_and_then value_text (field_value c.args.config.now c.args.name.now item))
    (λ o p. p ∙ is) c.virtual_text.ensures
