use Rattle.std.proofs.Common.{rules, ◌≡◌, Some, string_bytes}
use Rattle.serde_json.specs.View.{view}
use Rattle.serde_json.specs.Find.{as_str}
use Rattle.dbe_config.specs.Shape.{listed_action}
use Rattle.dbe_config.proofs.Actions.{actions_step}
use Rattle.dbe_config.proofs.read_actions.actions_in.Goals as goal

pub loop-name-preserved : goal.loop-name-preserved
loop-name-preserved c =
    let listed : listed_action (string_bytes c.in-Some.name.now) (as_str (view c.in-Some.value.now)) ≡ Some
    c.in-Some-listed_action.action = search rules in
    actions_step c.loop-name.actions.entries _ _ _ _ (c.in-Some.name.now, c.in-Some.value.now) c.in_ok-clone.field-0 _
    c.in-Some.ensures.steps listed (search rules) c.in_ok-insert.ensures.entries c.loop-name.invariant
