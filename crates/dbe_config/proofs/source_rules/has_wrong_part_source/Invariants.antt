use Rattle.std.proofs.Common.{◌≡◌, not, drop}
use Rattle.std.specs.List.{list_any}
use Rattle.dbe_config.specs.Rules.{is_part_source}
use Rattle.dbe_config.specs.Entries.{entries_of}
use Rattle.dbe_config.proofs.source_rules.has_wrong_part_source.Given as goal

abbrev pub invariant-loop-part : goal.invariant-loop-part
invariant-loop-part l = list_any (λ p. not (is_part_source l.schema (entries_of l.actions.entries) l.beacons p))
    (drop l.part-index l.parts) ≡ list_any (λ p. not (is_part_source l.schema (entries_of l.actions.entries) l.beacons
    p)) l.parts
