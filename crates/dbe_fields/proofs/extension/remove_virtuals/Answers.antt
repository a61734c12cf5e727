use Rattle.std.proofs.Common.{◌+◌, map, drop, ap, ◌∙◌}
use Rattle.dbe_config.specs.declared.virtual_field.Virtual.{Virtual}
use Rattle.dbe_fields.proofs.Removal.{unnamed, name_out, names_out}
use Rattle.dbe_fields.proofs.extension.remove_virtuals.Goals as goal

pub loop-field-preserved : goal.loop-field-preserved
loop-field-preserved c =
    ap (unnamed (map (λ (x : Virtual). x.name) (drop (c.loop-field.field-index + 1) c.args.virtuals.now)))
    c.remove.ensures.rest
    ∙ name_out (λ (x : Virtual). x.name) c.args.virtuals.now c.loop-field.field-index c.field-item.result
    c.as_str.result.now c.loop-field.target _ c.loop-field-test.true c.field-item.is c.as_str.ensures
    c.is_lawful.ensures.increasing c.loop-field.invariant

pub returns : goal.returns
returns c = names_out (λ (x : Virtual). x.name) c.args.virtuals.now c.loop-field.field-index c.loop-field.target _
    c.loop-field-test.false c.loop-field.invariant
