use Rattle.std.proofs.Common.{List, length, ap, sym, subst, arith}
use Rattle.dbe_tokens.specs.declared.token.Operand.{Operand}
use Rattle.dbe_grammar.proofs.Views.{form_of-In}
use Rattle.dbe_grammar.proofs.AfterOperand.{ListSoFar, in_open, in_first, in_next, in_member, in_front, list_more}
use Rattle.dbe_grammar.proofs.tails.within.Goals as goal

pub returns-in_default-clause-stop : goal.returns-in_default-clause-stop
returns-in_default-clause-stop c = in_open _ c.in_default.ensures.none

pub returns-in_default-operand-clause-stop : goal.returns-in_default-operand-clause-stop
returns-in_default-operand-clause-stop c = in_first _ _ c.in-Some.ensures.some c.in_default-operand.ensures.none

pub returns-in_default-after_close-clause-stop : goal.returns-in_default-after_close-clause-stop
returns-in_default-after_close-clause-stop c =
    in_next _ _ _ c.loop-more.invariant.so_far c.in_default-after_comma.ensures.none
    c.in_default-after_close.ensures.none

pub returns-in_default-after_comma-clause-front : goal.returns-in_default-after_comma-clause-front
returns-in_default-after_comma-clause-front c =
    rw (form_of-In c.args.value c.loop-more.list) (in_front _ _ _ _ _ c.loop-more.invariant.so_far
    c.in-Some-after_close.ensures.some)

pub returns-in_default-operand-2-clause-stop : goal.returns-in_default-operand-2-clause-stop
returns-in_default-operand-2-clause-stop c =
    in_member _ _ _ _ c.loop-more.invariant.so_far c.in-Some-after_comma.ensures.some
    c.in_default-operand-2.ensures.none

pub loop-more-preserved : goal.loop-more-preserved
loop-more-preserved c = record {
  so_far = subst (λ (x : List Operand). ListSoFar c.args.tokens.now x c.in-Some-operand-2.others.now)
      (sym c.in_ok-push-2.ensures.ok)
      (list_more _ _ _ _ _ _ c.loop-more.invariant.so_far c.in-Some-after_comma.ensures.some
      c.in-Some-operand-2.ensures.some);
  shorter = omega (arith, ap length c.in-Some-after_comma.ensures.some, ap length c.in-Some-operand-2.ensures.some);
}
