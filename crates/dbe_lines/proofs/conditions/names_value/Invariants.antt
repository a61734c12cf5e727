use Rattle.std.proofs.Common.{◌≡◌, drop}
use Rattle.serde_json.specs.Data.{no_members}
use Rattle.serde_json.specs.View.{members_view}
use Rattle.dbe_lines.specs.Texts.{with_names}
use Rattle.dbe_lines.proofs.conditions.names_value.Given as goal

abbrev pub invariant-loop-i : goal.invariant-loop-i
invariant-loop-i l = with_names (members_view l.map.entries) (drop l.i l.names) ≡ with_names no_members l.names
