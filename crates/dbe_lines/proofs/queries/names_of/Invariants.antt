use Rattle.std.proofs.Common.{◌≡◌, ◌++◌}
use Rattle.std.specs.Map.{keys_of}
use Rattle.serde_json.specs.View.{members_view}
use Rattle.dbe_values.proofs.LawfulValues.{member_names}
use Rattle.dbe_lines.specs.Queries.{names_in}
use Rattle.dbe_lines.proofs.Asked.{in_front}
use Rattle.dbe_lines.proofs.queries.names_of.Given as goal

abbrev pub invariant-loop-placeholder : goal.invariant-loop-placeholder
invariant-loop-placeholder l = record {
  so_far : in_front l.names (names_in (members_view l.placeholder-iterator)) ≡ names_in (members_view l.map.entries);
  order : keys_of l.names ++ member_names l.placeholder-iterator ≡ member_names l.map.entries;
}
