use Rattle.std.proofs.Common.{◌∙◌, subst}
use Rattle.std.specs.Str.{IsUtf8}
use Rattle.dbe_values.proofs.Lookups.{found_put, missed_put, set_lawful, insert_lawful}
use Rattle.dbe_values.proofs.item.put_among.Goals as goal

pub returns-in-Ok-clause-ok : goal.returns-in-Ok-clause-ok
returns-in-Ok-clause-ok c =
    found_put c.args.attributes.now.items _ c.args.name _ c.in-Ok.i c.requires.item c.deref.ensures.value
    (c.as_bytes.ensures.value ∙ c.as_str.ensures) c.args.value c.in-Ok.ensures.there

pub returns-in-Ok-clause-lawful : goal.returns-in-Ok-clause-lawful
returns-in-Ok-clause-lawful c =
    set_lawful c.args.attributes.now.items _ c.args.name _ c.in-Ok.i c.requires.item c.deref.ensures.value
    (c.as_bytes.ensures.value ∙ c.as_str.ensures) c.args.value (subst IsUtf8 c.as_str.ensures c.as_str.utf8)
    c.requires.named c.requires.value c.in-Ok.ensures.there

pub returns-in_ok-insert-in-Err-clause-ok : goal.returns-in_ok-insert-in-Err-clause-ok
returns-in_ok-insert-in-Err-clause-ok c =
    c.in_ok-insert-in-Err.ensures.items ∙ missed_put c.args.attributes.now.items _ c.args.name _ c.in-Err.i
    c.requires.item c.deref.ensures.value (c.as_bytes.ensures.value ∙ c.as_str.ensures) c.args.value
    c.in-Err.ensures.gap

pub returns-in_ok-insert-in-Err-clause-lawful : goal.returns-in_ok-insert-in-Err-clause-lawful
returns-in_ok-insert-in-Err-clause-lawful c =
    rw c.in_ok-insert-in-Err.ensures.items (insert_lawful c.args.attributes.now.items _ c.args.name _ c.in-Err.i
    c.requires.item c.deref.ensures.value (c.as_bytes.ensures.value ∙ c.as_str.ensures) c.args.value
    (subst IsUtf8 c.as_str.ensures c.as_str.utf8) c.requires.named c.requires.value c.in-Err.ensures.gap)
