use Rattle.std.proofs.Common.{◌≡◌, not, drop}
use Rattle.std.specs.List.{list_any}
use Rattle.dbe_config.specs.Rules.{is_signed_name, has_wrong_from}
use Rattle.dbe_config.specs.Entries.{entries_of}
use Rattle.dbe_config.proofs.source_rules.has_wrong_from.Given as goal

abbrev pub invariant-loop-part : goal.invariant-loop-part
invariant-loop-part l = list_any (λ p. not (is_signed_name l.schema (entries_of l.actions.entries) p.from))
    (drop l.part-index l.field.parts) ≡ has_wrong_from l.schema (entries_of l.actions.entries) l.field
