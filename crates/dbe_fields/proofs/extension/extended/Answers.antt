use Rattle.dbe_fields.proofs.Removal.{extended_is}
use Rattle.dbe_fields.proofs.extension.extended.Goals as goal

pub returns : goal.returns
returns c =
    extended_is c.args.config.now c.args.item.now c.in_ok-target.target c.remove_compounds.new.target
    c.remove_virtuals.new.target c.put_compounds.new.target c.put_virtuals.new.target c.compounds.result.now
    c.virtuals.result.now c.compounds.ensures c.virtuals.ensures
    c.in_ok-target.ensures c.remove_compounds.ensures c.remove_virtuals.ensures c.in_ok-put_compounds.ensures
    c.in_ok-put_virtuals.ensures
