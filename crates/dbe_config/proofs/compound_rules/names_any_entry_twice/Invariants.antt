use Rattle.std.proofs.Common.{◌≡◌, drop}
use Rattle.std.specs.List.{list_any}
use Rattle.dbe_config.specs.Rules.{names_entry_twice}
use Rattle.dbe_config.proofs.compound_rules.names_any_entry_twice.Given as goal

abbrev pub invariant-loop-constructor : goal.invariant-loop-constructor
invariant-loop-constructor l = list_any names_entry_twice (drop l.constructor-index l.constructors) ≡ list_any
    names_entry_twice l.constructors
