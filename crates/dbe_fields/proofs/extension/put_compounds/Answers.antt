use Rattle.std.proofs.Common.{map, ap, sym, ◌∙◌}
use Rattle.dbe_config.specs.Rules.{is_among}
use Rattle.dbe_config.specs.declared.compound.Compound.{Compound}
use Rattle.dbe_fields.proofs.Removal.{among_at, or_left}
use Rattle.dbe_fields.proofs.extension.put_compounds.Goals as goal

pub put_computed-requires-clause-computed : goal.put_computed-requires-clause-computed
put_computed-requires-clause-computed c =
    let name = c.compound-item.result.name in
    or_left _ _
    (ap (λ xs. is_among name (map (λ (x : Compound). x.name) xs)) (sym c.compounds-compound-items.ensures)
    ∙ among_at (λ (x : Compound). x.name) c.compounds-compound-items.result.now c.loop-compound.compound-index
    c.compound-item.result c.loop-compound-test.true c.compound-item.is)
