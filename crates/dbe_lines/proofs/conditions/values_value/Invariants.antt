use Rattle.std.proofs.Common.{◌≡◌, drop}
use Rattle.serde_json.specs.Data.{no_members}
use Rattle.serde_json.specs.View.{members_view}
use Rattle.dbe_values.specs.Writing.{with_members}
use Rattle.dbe_lines.proofs.conditions.values_value.Given as goal

abbrev pub invariant-loop-i : goal.invariant-loop-i
invariant-loop-i l = with_members (members_view l.map.entries) (drop l.i l.values) ≡ with_members no_members l.values
