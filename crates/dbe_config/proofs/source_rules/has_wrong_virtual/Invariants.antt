use Rattle.std.proofs.Common.{◌≡◌, drop}
use Rattle.std.specs.List.{list_any}
use Rattle.dbe_config.specs.Rules.{has_wrong_from}
use Rattle.dbe_config.specs.Entries.{entries_of}
use Rattle.dbe_config.proofs.source_rules.has_wrong_virtual.Given as goal

abbrev pub invariant-loop-field : goal.invariant-loop-field
invariant-loop-field l = list_any (has_wrong_from l.schema (entries_of l.actions.entries))
    (drop l.field-index l.virtuals) ≡ list_any (has_wrong_from l.schema (entries_of l.actions.entries)) l.virtuals
