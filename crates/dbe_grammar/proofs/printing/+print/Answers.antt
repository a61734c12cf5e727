use Rattle.std.proofs.Common.{[], ◌∷◌, ◌++◌, ◌<◌, length, drop, drop-cons, suc, add-one, ap, sym, ◌∙◌}
use Rattle.dbe_grammar.specs.Form.{form_of}
use Rattle.dbe_grammar.specs.Form as form
use Rattle.dbe_grammar.specs.Printed.{list_printed}
use Rattle.dbe_grammar.proofs.Views.{form_of-Not, form_of-In}
use Rattle.dbe_grammar.proofs.Appending.{weaken, member_closed, not_printed, in_printed, ands_begin, ors_begin}
use Rattle.dbe_grammar.proofs.Appending.{ands_step, ors_step}
use Rattle.dbe_grammar.proofs.printing.+print.Goals as goal

pub print-returns-in_ok-push-in-In-4 : goal.print-returns-in_ok-push-in-In-4
print-returns-in_ok-push-in-In-4 t c =
    in_printed _ _ _ _ _ _ c.in-In.value c.in-In.list _ (ap form_of c.in-In.is ∙
    form_of-In c.in-In.value c.in-In.list) c.in_ok-push-in-In.ensures.ok c.in_ok-push-in-In-2.ensures.ok
    c.in_ok-push-in-In-3.ensures.ok
    (c.in_ok-print_list-in-In.ensures ∙ ap (λ x. c.push-in-In-3.new.self ++ list_printed x []) c.as_slice.ensures)
    c.in_ok-push-in-In-4.ensures.ok

pub print-returns-in_ok-push-in-Not : goal.print-returns-in_ok-push-in-Not
print-returns-in_ok-push-in-Not t c =
    weaken _ c.print_member.ensures
    (not_printed _ _ _ _ _ _ (ap form_of c.in-Not.is ∙ form_of-Not c.in-Not.inner ∙
    ap (λ x. form.not (form_of x)) (sym c.get-inner.ensures)) c.is_chain.ensures c.in_ok-push-in-Not.ensures.ok)

pub print_ands-loop-member-init : goal.print_ands-loop-member-init
print_ands-loop-member-init t c = ands_begin _ _ _ _ _ _ c.in-Some.ensures.cases.0 c.is_chain.ensures
    c.in_ok-print_member.ensures

pub print_ors-loop-member-init : goal.print_ors-loop-member-init
print_ors-loop-member-init t c = ors_begin _ _ _ _ _ _ c.in-Some.ensures.cases.0 c.is_or.ensures
    c.in_ok-print_member.ensures

pub print_ands-loop-member-preserved : goal.print_ands-loop-member-preserved
print_ands-loop-member-preserved t c =
    let lt : c.loop-member.member-index < length c.in-Some.rest.now = c.loop-member-test.true in
    ands_step _ _ _ _ _ _ c.member-item.result _ (rw add-one (drop-cons c.in-Some.rest.now c.loop-member.member-index
    c.member-item.result lt ∙ ap (λ x. x ∷ drop (suc c.loop-member.member-index) c.in-Some.rest.now)
    (sym c.member-item.is))) c.in_ok-push.ensures.ok c.is_chain-in-loop-member.ensures
    c.in_ok-print_member-2.ensures c.loop-member.invariant

pub print_ors-loop-member-preserved : goal.print_ors-loop-member-preserved
print_ors-loop-member-preserved t c =
    let lt : c.loop-member.member-index < length c.in-Some.rest.now = c.loop-member-test.true in
    ors_step _ _ _ _ _ _ c.member-item.result _ (rw add-one (drop-cons c.in-Some.rest.now c.loop-member.member-index
    c.member-item.result lt ∙ ap (λ x. x ∷ drop (suc c.loop-member.member-index) c.in-Some.rest.now)
    (sym c.member-item.is))) c.in_ok-push.ensures.ok c.is_or-in-loop-member.ensures c.in_ok-print_member-2.ensures
    c.loop-member.invariant

pub print_member-returns-in_ok-push-2 : goal.print_member-returns-in_ok-push-2
print_member-returns-in_ok-push-2 t c = member_closed _ _ _ _ (form_of c.args.tree.now) c.args.parentheses
    c.if-parentheses.true c.in_ok-push.ensures.ok c.in_ok-print.ensures c.in_ok-push-2.ensures.ok
