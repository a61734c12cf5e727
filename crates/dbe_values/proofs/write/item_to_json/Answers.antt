use Rattle.std.proofs.Common.{rules, ◌∙◌, sym, ap, arith}
use Rattle.serde_json.specs.Data.{object}
use Rattle.serde_json.proofs.Views.{view-Object}
use Rattle.dbe_values.proofs.Members.{with_members_put, with_members_end}
use Rattle.dbe_values.proofs.write.item_to_json.Goals as goal

pub loop-i-preserved : goal.loop-i-preserved
loop-i-preserved c =
    with_members_put _ c.insert.new.self.entries c.args.item.now c.loop-i.i _ c.at.result.1.now _ _ c.at.ensures
    (search rules) (search rules) c.in_ok-insert.ensures.entries c.loop-i.invariant

pub returns : goal.returns
returns c = view-Object c.loop-i.map ∙ ap object (sym (with_members_end _ _ c.loop-i.i (omega arith)) ∙
    c.loop-i.invariant)
