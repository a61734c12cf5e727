use Rattle.std.proofs.Common.{ℕ, List, Some, ◌∙◌, ap}
use Rattle.dbe_values.specs.declared.value.AttrValue.{AttrValue}
use Rattle.dbe_values.specs.Attributes.{value_at}
use Rattle.dbe_values.proofs.Lookups.{found_value, missed_value}
use Rattle.dbe_values.proofs.item.Item.get.Goals as goal

pub returns-in-Ok : goal.returns-in-Ok
returns-in-Ok c =
    ap (λ (x : List ℕ × AttrValue). Some x.1) c.index.ensures ∙
    found_value _ _ c.args.name.now _ c.in-Ok.i c.self.invariant c.deref.ensures.value c.as_bytes.ensures.value
    c.index.result.now c.in-Ok.ensures.there ∙ ap (value_at c.args.name.now) c.self.view_is

pub returns-in-Err : goal.returns-in-Err
returns-in-Err c = missed_value _ _ c.args.name.now _ c.in-Err.field-0 c.self.invariant c.deref.ensures.value
    c.as_bytes.ensures.value c.in-Err.ensures.gap ∙ ap (value_at c.args.name.now) c.self.view_is
