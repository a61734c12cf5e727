use Rattle.std.proofs.Common.{◌+◌, map, drop, ap, ◌∙◌}
use Rattle.dbe_config.specs.declared.compound.Compound.{Compound}
use Rattle.dbe_fields.proofs.Removal.{unnamed, name_out, names_out}
use Rattle.dbe_fields.proofs.extension.remove_compounds.Goals as goal

pub loop-compound-preserved : goal.loop-compound-preserved
loop-compound-preserved c =
    ap (unnamed (map (λ (x : Compound). x.name) (drop (c.loop-compound.compound-index + 1) c.args.compounds.now)))
    c.remove.ensures.rest
    ∙ name_out (λ (x : Compound). x.name) c.args.compounds.now c.loop-compound.compound-index c.compound-item.result
    c.as_str.result.now c.loop-compound.target _ c.loop-compound-test.true c.compound-item.is c.as_str.ensures
    c.is_lawful.ensures.increasing c.loop-compound.invariant

pub returns : goal.returns
returns c = names_out (λ (x : Compound). x.name) c.args.compounds.now c.loop-compound.compound-index
    c.loop-compound.target _ c.loop-compound-test.false c.loop-compound.invariant
