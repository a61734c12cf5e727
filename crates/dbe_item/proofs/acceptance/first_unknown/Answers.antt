use Rattle.std.proofs.Common.{sym, ◌∙◌}
use Rattle.dbe_item.specs.Acceptance.{is_unknown}
use Rattle.dbe_item.proofs.Walks.{none_more, one_passes}
use Rattle.dbe_item.proofs.acceptance.first_unknown.Goals as goal

pub returns-then-is_unknown : goal.returns-then-is_unknown
returns-then-is_unknown c = one_passes (is_unknown c.args.config.now) c.args.item.now c.loop-i.i _ c.at.ensures
    (sym c.is_unknown.ensures ∙ c.if-is_unknown.true) c.loop-i.invariant

pub loop-i-preserved : goal.loop-i-preserved
loop-i-preserved c = none_more (is_unknown c.args.config.now) c.args.item.now c.loop-i.i _ c.at.ensures
    (sym c.is_unknown.ensures ∙ c.if-is_unknown.false) c.loop-i.invariant
