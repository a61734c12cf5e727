use Rattle.std.proofs.Common.{◌≡◌, ◌<◌, List, [], ◌∷◌, ◌++◌, length, ap, sym, subst, ◌∙◌, arith}
use Rattle.dbe_tokens.specs.declared.token.Token.TheVariants as k
use Rattle.dbe_grammar.specs.declared.tree.Tree.{Tree}
use Rattle.dbe_grammar.specs.Form.{Form, Forms, form_of, members_of, forms_last}
use Rattle.dbe_grammar.specs.Form as form
use Rattle.dbe_grammar.specs.Parts.{OrFront, AndFront, FactorFront}
use Rattle.dbe_grammar.proofs.Views.{members_of-last, form_of-And, form_of-Or, form_of-Not}
use Rattle.dbe_grammar.proofs.Factors.{negated_front, negated_stops, group_front, group_stops, group_close}
use Rattle.dbe_grammar.proofs.Factors.{factor_end, factor_token}
use Rattle.dbe_grammar.proofs.Chains.{AndsSoFar, ands_start, ands_more, ands_end, ands_one, ands_stops_first}
use Rattle.dbe_grammar.proofs.Chains.{ands_stops, OrsSoFar, ors_start, ors_more, ors_end, ors_one, ors_stops_first}
use Rattle.dbe_grammar.proofs.Chains.{ors_stops}
use Rattle.dbe_grammar.proofs.parser.+parser.Goals as goal

pub and_list-returns-in-Err-clause-stop : goal.and_list-returns-in-Err-clause-stop
and_list-returns-in-Err-clause-stop t c = ands_stops_first _ _ c.in-Err.ensures.stop

pub and_list-returns-in_default-clause-front : goal.and_list-returns-in_default-clause-front
and_list-returns-in_default-clause-front t c = ands_one _ _ _ c.in-Ok.ensures.front c.in_default.ensures.none

pub and_list-loop-found-init : goal.and_list-loop-found-init
and_list-loop-found-init t c =
    let pushed : c.push.new.self ≡ c.in-Ok.found.0 ∷ [] = c.in_ok-push.ensures.ok ∙
    ap (λ x. x ++ c.in-Ok.found.0 ∷ []) c.new-members.ensures in
    let less : length c.in-Ok.found.1.now < length c.args.tokens.now = c.in-Ok.ensures.shorter in
    record {
      so_far = subst (λ (x : List Tree). AndsSoFar c.args.tokens.now (members_of x) c.in-Some.rest.now) (sym pushed)
          (ands_start _ _ _ _ c.in-Ok.ensures.front c.in-Some.ensures.some);
      shorter = omega (arith, ap length c.in-Some.ensures.some);
    }

pub and_list-returns-in-Err-factor-clause-stop : goal.and_list-returns-in-Err-factor-clause-stop
and_list-returns-in-Err-factor-clause-stop t c =
    ands_stops _ _ _ _ c.loop-found.invariant.so_far c.in-Err-factor.ensures.stop

pub and_list-returns-in_default-after_and-clause-front : goal.and_list-returns-in_default-after_and-clause-front
and_list-returns-in_default-after_and-clause-front t c =
    let pushed : members_of c.push-in-loop-found.new.self ≡ forms_last (members_of c.loop-found.members)
    (form_of c.in-Ok-factor.found.0) =
    ap members_of c.in_ok-push-2.ensures.ok ∙ members_of-last c.loop-found.members c.in-Ok-factor.found.0 in
    subst (λ (x : Form). AndFront c.args.tokens.now x c.in-Ok-factor.found.1.now)
    (sym (form_of-And c.push-in-loop-found.new.self ∙ ap form.and pushed))
    (ands_end _ _ _ _ _ c.loop-found.invariant.so_far c.in-Ok-factor.ensures.front c.in_default-after_and.ensures.none)

pub and_list-loop-found-preserved : goal.and_list-loop-found-preserved
and_list-loop-found-preserved t c =
    let less : length c.in-Ok-factor.found.1.now < length c.loop-found.rest.now = c.in-Ok-factor.ensures.shorter in
    let pushed : members_of c.push-in-loop-found.new.self ≡ forms_last (members_of c.loop-found.members)
    (form_of c.in-Ok-factor.found.0) =
    ap members_of c.in_ok-push-2.ensures.ok ∙ members_of-last c.loop-found.members c.in-Ok-factor.found.0 in
    record {
      so_far = subst (λ (x : Forms). AndsSoFar c.args.tokens.now x c.in-Some-after_and.more.now) (sym pushed)
          (ands_more _ _ _ _ _ _ c.loop-found.invariant.so_far c.in-Ok-factor.ensures.front
          c.in-Some-after_and.ensures.some);
      shorter = omega (arith, ap length c.in-Some-after_and.ensures.some);
    }

pub or_list-returns-in-Err-clause-stop : goal.or_list-returns-in-Err-clause-stop
or_list-returns-in-Err-clause-stop t c = ors_stops_first _ _ c.in-Err.ensures.stop

pub or_list-returns-in_default-clause-front : goal.or_list-returns-in_default-clause-front
or_list-returns-in_default-clause-front t c = ors_one _ _ _ c.in-Ok.ensures.front c.in_default.ensures.none

pub or_list-loop-found-init : goal.or_list-loop-found-init
or_list-loop-found-init t c =
    let pushed : c.push.new.self ≡ c.in-Ok.found.0 ∷ [] = c.in_ok-push.ensures.ok ∙
    ap (λ x. x ++ c.in-Ok.found.0 ∷ []) c.new-members.ensures in
    let less : length c.in-Ok.found.1.now < length c.args.tokens.now = c.in-Ok.ensures.shorter in
    record {
      so_far = subst (λ (x : List Tree). OrsSoFar c.args.tokens.now (members_of x) c.in-Some.rest.now) (sym pushed)
          (ors_start _ _ _ _ c.in-Ok.ensures.front c.in-Some.ensures.some);
      shorter = omega (arith, ap length c.in-Some.ensures.some);
    }

pub or_list-returns-in-Err-and_list-clause-stop : goal.or_list-returns-in-Err-and_list-clause-stop
or_list-returns-in-Err-and_list-clause-stop t c =
    ors_stops _ _ _ _ c.loop-found.invariant.so_far c.in-Err-and_list.ensures.stop

pub or_list-returns-in_default-after_or-clause-front : goal.or_list-returns-in_default-after_or-clause-front
or_list-returns-in_default-after_or-clause-front t c =
    let pushed : members_of c.push-in-loop-found.new.self ≡ forms_last (members_of c.loop-found.members)
    (form_of c.in-Ok-and_list.found.0) =
    ap members_of c.in_ok-push-2.ensures.ok ∙ members_of-last c.loop-found.members c.in-Ok-and_list.found.0 in
    subst (λ (x : Form). OrFront c.args.tokens.now x c.in-Ok-and_list.found.1.now)
    (sym (form_of-Or c.push-in-loop-found.new.self ∙ ap form.or pushed))
    (ors_end _ _ _ _ _ c.loop-found.invariant.so_far c.in-Ok-and_list.ensures.front c.in_default-after_or.ensures.none)

pub or_list-loop-found-preserved : goal.or_list-loop-found-preserved
or_list-loop-found-preserved t c =
    let less : length c.in-Ok-and_list.found.1.now < length c.loop-found.rest.now = c.in-Ok-and_list.ensures.shorter in
    let pushed : members_of c.push-in-loop-found.new.self ≡ forms_last (members_of c.loop-found.members)
    (form_of c.in-Ok-and_list.found.0) =
    ap members_of c.in_ok-push-2.ensures.ok ∙ members_of-last c.loop-found.members c.in-Ok-and_list.found.0 in
    record {
      so_far = subst (λ (x : Forms). OrsSoFar c.args.tokens.now x c.in-Some-after_or.more.now) (sym pushed)
          (ors_more _ _ _ _ _ _ c.loop-found.invariant.so_far c.in-Ok-and_list.ensures.front
          c.in-Some-after_or.ensures.some);
      shorter = omega (arith, ap length c.in-Some-after_or.ensures.some);
    }

pub group-returns-in-Some-clause-front : goal.group-returns-in-Some-clause-front
group-returns-in-Some-clause-front t c = group_front _ _ _ _ c.in-Ok.ensures.front c.in-Some.ensures.some

pub group-returns-in-None-clause-stop : goal.group-returns-in-None-clause-stop
group-returns-in-None-clause-stop t c = group_close _ _ _ c.in-Ok.ensures.front c.in-None.ensures.none

pub group-returns-in-Err-clause-stop : goal.group-returns-in-Err-clause-stop
group-returns-in-Err-clause-stop t c = group_stops _ _ c.in-Err.ensures.stop

pub negated-returns-in_ok-new-in-Ok-clause-front : goal.negated-returns-in_ok-new-in-Ok-clause-front
negated-returns-in_ok-new-in-Ok-clause-front t c =
    subst (λ (x : Form). FactorFront (k.Not ∷ c.args.tokens.now) x c.in-Ok.others.now)
    (sym (form_of-Not c.in_ok-new-in-Ok.field-0 ∙ ap (λ x. form.not (form_of x)) c.in_ok-new-in-Ok.ensures))
    (negated_front _ _ _ c.in-Ok.ensures.front)

pub negated-returns-in-Err-clause-stop : goal.negated-returns-in-Err-clause-stop
negated-returns-in-Err-clause-stop t c = negated_stops _ _ c.in-Err.ensures.stop

pub factor-returns-in_default-clause-stop : goal.factor-returns-in_default-clause-stop
factor-returns-in_default-clause-stop t c = factor_end _ c.in_default.ensures.cases

pub factor-returns-in_default-token : goal.factor-returns-in_default-token
factor-returns-in_default-token t c = record {
  front = tt;
  shorter = tt;
  stop = factor_token _ c.in-Some.rest.now c.in-Some.token.now c.in-Some.ensures.cases.0 c.in_default-token.not-Not
      c.in_default-token.not-Open c.in_default-token.not-Exists c.in_default-token.not-NotExists
      c.in_default-token.not-BeginsWith c.in_default-token.not-Operand;
}
