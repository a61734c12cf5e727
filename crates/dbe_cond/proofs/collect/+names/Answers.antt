use Rattle.std.proofs.Common.{◌∷◌, ◌<◌, length, drop, drop-cons, suc, add-one, ap, sym, ◌∙◌}
use Rattle.dbe_cond.proofs.Collecting.{members_names_step}
use Rattle.dbe_cond.proofs.collect.+names.Goals as goal

pub push_members_names-loop-member-preserved : goal.push_members_names-loop-member-preserved
push_members_names-loop-member-preserved t c =
    let lt : c.loop-member.member-index < length c.args.members.now = c.loop-member-test.true in
    members_names_step _ _ _ _ _ c.member-item.result
    (rw add-one (drop-cons c.args.members.now c.loop-member.member-index c.member-item.result lt ∙
    ap (λ x. x ∷ drop (suc c.loop-member.member-index) c.args.members.now) (sym c.member-item.is)))
    c.in_ok-push_names.ensures c.loop-member.invariant
