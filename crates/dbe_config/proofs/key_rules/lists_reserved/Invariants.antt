use Rattle.std.proofs.Common.{◌≡◌}
use Rattle.dbe_config.specs.Rules.{lists_reserved}
use Rattle.dbe_config.specs.Entries.{entries_of}
use Rattle.dbe_config.proofs.key_rules.lists_reserved.Given as goal

abbrev pub invariant-loop-name : goal.invariant-loop-name
invariant-loop-name l = lists_reserved (entries_of l.name-iterator) ≡ lists_reserved (entries_of l.actions.entries)
