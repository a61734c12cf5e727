use Rattle.std.proofs.Common.{◌≡◌}
use Rattle.serde_json.specs.View.{members_view}
use Rattle.dbe_lines.specs.Queries.{are_texts}
use Rattle.dbe_lines.proofs.queries.are_texts.Given as goal

abbrev pub invariant-loop-value : goal.invariant-loop-value
invariant-loop-value l = are_texts (members_view l.value-iterator) ≡ are_texts (members_view l.map.entries)
