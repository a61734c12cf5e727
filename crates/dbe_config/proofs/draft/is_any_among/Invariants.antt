use Rattle.std.proofs.Common.{◌≡◌, drop}
use Rattle.std.specs.List.{list_any}
use Rattle.dbe_config.specs.Rules.{is_among, virtual_names, compound_names}
use Rattle.dbe_config.proofs.draft.is_any_among.Given as goal

abbrev pub invariant-loop-compound : goal.invariant-loop-compound
invariant-loop-compound l = list_any (λ name. is_among name (virtual_names l.virtuals))
    (compound_names (drop l.compound-index l.compounds)) ≡ list_any (λ name. is_among name (virtual_names l.virtuals))
    (compound_names l.compounds)
