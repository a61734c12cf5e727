use Rattle.std.proofs.Common.{sym, ◌∙◌}
use Rattle.dbe_config.specs.Actions.{is_reserved}
use Rattle.dbe_item.proofs.Walks.{none_more, one_passes}
use Rattle.dbe_item.proofs.acceptance.first_reserved.Goals as goal

pub returns-then-is_reserved : goal.returns-then-is_reserved
returns-then-is_reserved c = one_passes is_reserved c.args.item.now c.loop-i.i _ c.at.ensures
    (sym c.is_reserved.ensures ∙ c.if-is_reserved.true) c.loop-i.invariant

pub loop-i-preserved : goal.loop-i-preserved
loop-i-preserved c = none_more is_reserved c.args.item.now c.loop-i.i _ c.at.ensures (sym c.is_reserved.ensures ∙
    c.if-is_reserved.false) c.loop-i.invariant
