use Rattle.std.proofs.Common.{◌≡◌, ap, sym, ◌∙◌, fold, drop, []}
use Rattle.std.proofs.lemmas.List.{drop_all}
use Rattle.dbe_values.specs.Attributes.{value_at}
use Rattle.dbe_fields.specs.Plain.{plain}
use Rattle.dbe_fields.specs.Extended.{with_value}
use Rattle.dbe_fields.proofs.Values.{value-among}
use Rattle.dbe_fields.proofs.extension.values_of.Goals as goal

pub returns : goal.returns
returns c = λ name.
    let done : c.loop-name.target ≡ fold (λ r name. with_value name (plain c.args.config.now name c.args.item.now) r)
    [] c.args.names.now =
    ap (fold (λ r name. with_value name (plain c.args.config.now name c.args.item.now) r) c.loop-name.target)
    (sym (drop_all c.loop-name.name-index c.args.names.now c.loop-name-test.false)) ∙ c.loop-name.invariant in
    ap (value_at name) done ∙ value-among c.args.names.now c.args.config.now c.args.item.now name
