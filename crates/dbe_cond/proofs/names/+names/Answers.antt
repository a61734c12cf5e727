use Rattle.std.proofs.Common.{◌∷◌, ◌+◌, ◌<◌, length, drop, drop-cons, suc, add-one, ap, sym, ◌∙◌, Some, None}
use Rattle.dbe_cond.proofs.Firsts.{first_after}
use Rattle.dbe_cond.proofs.names.+names.Goals as goal

pub in_members-returns-in-Some : goal.in_members-returns-in-Some
in_members-returns-in-Some t c =
    let lt : c.loop-member.member-index < length c.args.members.now = c.loop-member-test.true in
    first_after c.args.prefix.now c.member-item.result (drop (c.loop-member.member-index + 1) c.args.members.now)
    (drop c.loop-member.member-index c.args.members.now) (Some c.in-Some.name.now) _
    (rw add-one (drop-cons c.args.members.now c.loop-member.member-index c.member-item.result lt ∙
    ap (λ x. x ∷ drop (suc c.loop-member.member-index) c.args.members.now) (sym c.member-item.is)))
    (rw c.in-Some.is at c.first_name_with.ensures) c.loop-member.invariant

pub in_members-loop-member-preserved : goal.in_members-loop-member-preserved
in_members-loop-member-preserved t c =
    let lt : c.loop-member.member-index < length c.args.members.now = c.loop-member-test.true in
    first_after c.args.prefix.now c.member-item.result (drop (c.loop-member.member-index + 1) c.args.members.now)
    (drop c.loop-member.member-index c.args.members.now) None _
    (rw add-one (drop-cons c.args.members.now c.loop-member.member-index c.member-item.result lt ∙
    ap (λ x. x ∷ drop (suc c.loop-member.member-index) c.args.members.now) (sym c.member-item.is)))
    (rw c.in_default.is at c.first_name_with.ensures) c.loop-member.invariant
