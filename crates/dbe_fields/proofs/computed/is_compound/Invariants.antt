use Rattle.std.proofs.Common.{◌≡◌, drop}
use Rattle.dbe_config.specs.Rules.{is_among, compound_names}
use Rattle.dbe_fields.proofs.computed.is_compound.Given as goal

abbrev pub invariant-loop-compound : goal.invariant-loop-compound
invariant-loop-compound l = is_among l.name (compound_names (drop l.compound-index l.compounds)) ≡ is_among l.name
    (compound_names l.compounds)
