use Rattle.std.proofs.Common.{rules, ◌≡◌, Some, string_bytes}
use Rattle.serde_json.specs.View.{view}
use Rattle.serde_json.specs.Find.{as_str}
use Rattle.dbe_config.specs.Shape.{pair_of}
use Rattle.dbe_config.specs.Spelling.{text_of}
use Rattle.dbe_config.proofs.Lists.{pairs_step, keys_step, pair_key, sorted_keys, pairs_in_order}
use Rattle.dbe_config.proofs.read_context.pairs_in.Goals as goal

pub loop-key-preserved : goal.loop-key-preserved
loop-key-preserved c =
    let spelled : pair_of (string_bytes c.in-Some.key.now) (text_of 0 1024 (as_str (view c.in-Some.value.now))) ≡ Some
    c.in-Some-2.pair = search rules in
    record {
      read = pairs_step c.loop-key.pairs.items _ _ _ (c.in-Some.key.now, c.in-Some.value.now) _ _
          c.in-Some.ensures.steps spelled (search rules) c.loop-key.invariant.read;
      keys = keys_step c.loop-key.pairs.items _ _ _ _ (c.in-Some.key.now, c.in-Some.value.now) c.in-Some-2.pair
          c.in-Some.ensures.steps (pair_key _ _ c.in-Some-2.pair spelled) (search rules) c.loop-key.invariant.keys;
    }

pub returns-clause-order : goal.returns-clause-order
returns-clause-order c =
    pairs_in_order c.loop-key.pairs.items c.loop-key.key-iterator c.args.map.now.entries (search rules)
    c.loop-key.invariant.keys
    (sorted_keys c.args.map.now.entries c.into_iter-key-iterator.ensures.into_iter_gives.5)
