use Rattle.std.proofs.Common.{◌≡◌, drop}
use Rattle.std.specs.List.{list_any}
use Rattle.dbe_config.specs.Rules.{names_part_twice}
use Rattle.dbe_config.proofs.compound_rules.names_any_part_twice.Given as goal

abbrev pub invariant-loop-compound : goal.invariant-loop-compound
invariant-loop-compound l = list_any names_part_twice (drop l.compound-index l.compounds) ≡ list_any names_part_twice
    l.compounds
