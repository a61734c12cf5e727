use Rattle.std.proofs.Common.{◌≡◌, drop}
use Rattle.std.specs.List.{list_any}
use Rattle.dbe_config.specs.Rules.{has_wrong_part}
use Rattle.dbe_config.specs.Entries.{entries_of}
use Rattle.dbe_config.proofs.source_rules.has_wrong_compound.Given as goal

abbrev pub invariant-loop-compound : goal.invariant-loop-compound
invariant-loop-compound l = list_any (has_wrong_part l.schema (entries_of l.actions.entries) l.beacons)
    (drop l.compound-index l.compounds) ≡ list_any (has_wrong_part l.schema (entries_of l.actions.entries) l.beacons)
    l.compounds
