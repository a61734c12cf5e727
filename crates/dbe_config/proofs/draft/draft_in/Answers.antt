use Rattle.std.proofs.Common.{rules, sym}
use Rattle.serde_json.specs.View.{view}
use Rattle.dbe_config.proofs.Bounds.{setting_bounds}
use Rattle.dbe_config.proofs.draft.draft_in.Goals as goal

pub returns-clause-is : goal.returns-clause-is
returns-clause-is c = search rules

pub returns-clause-bounded : goal.returns-clause-bounded
returns-clause-bounded c = setting_bounds (view c.args.value.now) _ (sym (returns-clause-is c))
    (rw c.in-Some-5.is at c.in_ok-context.ensures.order)
