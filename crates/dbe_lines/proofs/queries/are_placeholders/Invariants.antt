use Rattle.std.proofs.Common.{◌≡◌}
use Rattle.serde_json.specs.View.{members_view}
use Rattle.dbe_lines.specs.Queries.{are_placeholders}
use Rattle.dbe_lines.proofs.queries.are_placeholders.Given as goal

abbrev pub invariant-loop-name : goal.invariant-loop-name
invariant-loop-name l = are_placeholders l.sign (members_view l.name-iterator) ≡ are_placeholders l.sign
    (members_view l.map.entries)
