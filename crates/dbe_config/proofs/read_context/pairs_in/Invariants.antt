use Rattle.std.proofs.Common.{◌≡◌, ◌++◌}
use Rattle.serde_json.specs.View.{members_view}
use Rattle.dbe_config.specs.Shape.{pairs_in}
use Rattle.dbe_config.proofs.Lists.{after, pair_keys, entry_keys}
use Rattle.dbe_config.proofs.read_context.pairs_in.Given as goal

abbrev pub invariant-loop-key : goal.invariant-loop-key
invariant-loop-key l = record {
  read : after l.pairs.items (pairs_in (members_view l.key-iterator)) ≡ pairs_in (members_view l.map.entries);
  keys : pair_keys l.pairs.items ++ entry_keys l.key-iterator ≡ entry_keys l.map.entries;
}
