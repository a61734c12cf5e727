use Rattle.std.proofs.Common.{◌≡◌, []}
use Rattle.serde_json.specs.View.{members_view}
use Rattle.dbe_config.specs.Entries.{entries_of}
use Rattle.dbe_config.specs.Shape.{actions_in}
use Rattle.dbe_config.proofs.read_actions.actions_in.Given as goal

abbrev pub invariant-loop-name : goal.invariant-loop-name
invariant-loop-name l = actions_in (entries_of l.actions.entries) (members_view l.name-iterator) ≡ actions_in []
    (members_view l.map.entries)
