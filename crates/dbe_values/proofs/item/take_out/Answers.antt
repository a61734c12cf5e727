use Rattle.std.proofs.Common.{ℕ, List, Some, ◌∙◌, ap}
use Rattle.dbe_values.specs.declared.value.AttrValue.{AttrValue}
use Rattle.dbe_values.proofs.Lookups.{found_value, missed_value, found_without, missed_without, remove_lawful}
use Rattle.dbe_values.proofs.item.take_out.Goals as goal

pub returns-in-Ok-clause-value : goal.returns-in-Ok-clause-value
returns-in-Ok-clause-value c =
    ap (λ (x : List ℕ × AttrValue). Some x.1) c.remove-value.ensures.value ∙
    found_value c.args.attributes.now.items _ c.args.name.now _ c.in-Ok.i c.requires c.deref.ensures.value
    c.as_bytes.ensures.value c.remove-value.result c.in-Ok.ensures.there

pub returns-in-Ok-clause-rest : goal.returns-in-Ok-clause-rest
returns-in-Ok-clause-rest c = c.remove-value.ensures.items ∙
    found_without c.args.attributes.now.items _ c.args.name.now _ c.in-Ok.i c.requires c.deref.ensures.value
    c.as_bytes.ensures.value c.in-Ok.ensures.there

pub returns-in-Ok-clause-lawful : goal.returns-in-Ok-clause-lawful
returns-in-Ok-clause-lawful c = rw c.remove-value.ensures.items (remove_lawful c.args.attributes.now.items _
    c.args.name.now _ c.in-Ok.i c.requires c.deref.ensures.value c.as_bytes.ensures.value c.in-Ok.ensures.there)

pub returns-in-Err-clause-value : goal.returns-in-Err-clause-value
returns-in-Err-clause-value c =
    missed_value c.args.attributes.now.items _ c.args.name.now _ c.in-Err.field-0 c.requires c.deref.ensures.value
    c.as_bytes.ensures.value c.in-Err.ensures.gap

pub returns-in-Err-clause-rest : goal.returns-in-Err-clause-rest
returns-in-Err-clause-rest c =
    missed_without c.args.attributes.now.items _ c.args.name.now _ c.in-Err.field-0 c.requires c.deref.ensures.value
    c.as_bytes.ensures.value c.in-Err.ensures.gap
