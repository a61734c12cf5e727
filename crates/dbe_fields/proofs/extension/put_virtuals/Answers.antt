use Rattle.std.proofs.Common.{map, ap, sym, ◌∙◌}
use Rattle.dbe_config.specs.Rules.{is_among}
use Rattle.dbe_config.specs.declared.virtual_field.Virtual.{Virtual}
use Rattle.dbe_fields.proofs.Removal.{among_at, or_right}
use Rattle.dbe_fields.proofs.extension.put_virtuals.Goals as goal

pub put_computed-requires-clause-computed : goal.put_computed-requires-clause-computed
put_computed-requires-clause-computed c =
    let name = c.field-item.result.name in
    or_right _ _
    (ap (λ xs. is_among name (map (λ (x : Virtual). x.name) xs)) (sym c.virtuals-field-items.ensures)
    ∙ among_at (λ (x : Virtual). x.name) c.virtuals-field-items.result.now c.loop-field.field-index
    c.field-item.result c.loop-field-test.true c.field-item.is)
