use Rattle.std.proofs.Common.{◌≡◌, map, drop}
use Rattle.std.specs.List.{list_any}
use Rattle.dbe_config.specs.Rules.{is_attribute}
use Rattle.dbe_config.specs.Entries.{entries_of}
use Rattle.dbe_config.proofs.named.has_attribute_name.Given as goal

abbrev pub invariant-loop-item : goal.invariant-loop-item
invariant-loop-item g l = list_any (is_attribute l.schema (entries_of l.actions.entries))
    (map g.T.Named.name_of (drop l.item-index l.items)) ≡ list_any
    (is_attribute l.schema (entries_of l.actions.entries)) (map g.T.Named.name_of l.items)
