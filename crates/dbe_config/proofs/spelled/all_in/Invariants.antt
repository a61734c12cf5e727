use Rattle.std.proofs.Common.{◌≡◌, drop}
use Rattle.serde_json.specs.View.{items_view}
use Rattle.dbe_config.specs.Spelling.{all_in}
use Rattle.dbe_config.proofs.Lists.{after}
use Rattle.dbe_config.proofs.spelled.all_in.Given as goal

abbrev pub invariant-loop-value : goal.invariant-loop-value
invariant-loop-value g l = after l.found.items (all_in g.T.Spelled.spelled (items_view (drop l.value-index l.values)))
    ≡ all_in g.T.Spelled.spelled (items_view l.values)
