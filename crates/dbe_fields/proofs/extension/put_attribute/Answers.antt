use Rattle.std.proofs.Common.{◌≡◌, Some, None, sym, ap, ◌∙◌}
use Rattle.dbe_values.specs.Attributes.{is_name, value_at}
use Rattle.dbe_values.specs.Lawful.{IsLawful}
use Rattle.dbe_values.specs.View.{view}
use Rattle.dbe_fields.specs.Extended.{with_value}
use Rattle.dbe_fields.proofs.Values.{plain-attribute}
use Rattle.dbe_fields.proofs.Named.{lawful_found}
use Rattle.dbe_fields.proofs.extension.put_attribute.Goals as goal

pub put-requires-clause-named : goal.put-requires-clause-named
put-requires-clause-named c =
    ap is_name c.in_ok-copy-in-Some.ensures ∙
    (lawful_found c.args.name.now c.in-Some.value.now c.args.item.now c.is_lawful.ensures.each
    (sym (rw c.as_str.ensures at c.in-Some.ensures))).name

pub put-requires-clause-lawful : goal.put-requires-clause-lawful
put-requires-clause-lawful c =
    rw c.in_ok-copy-in-Some-2.ensures ((lawful_found c.args.name.now c.in-Some.value.now c.args.item.now
    c.is_lawful.ensures.each (sym (rw c.as_str.ensures at c.in-Some.ensures))).value)

pub returns-in_ok-put-in-Some : goal.returns-in_ok-put-in-Some
returns-in_ok-put-in-Some c =
    rw (c.in_ok-copy-in-Some.ensures, c.in_ok-copy-in-Some-2.ensures) at c.in_ok-put-in-Some.ensures.ok
    ∙ ap (λ o. with_value c.args.name.now o c.args.target.now) (sym (plain-attribute c.args.config.now c.args.name.now
    c.args.item.now c.requires ∙ sym (rw c.as_str.ensures at c.in-Some.ensures)))

pub returns-in-None : goal.returns-in-None
returns-in-None c = ap (λ o. with_value c.args.name.now o c.args.target.now)
    (sym (plain-attribute c.args.config.now c.args.name.now c.args.item.now c.requires ∙
    sym (rw c.as_str.ensures at c.in-None.ensures)))
