use Rattle.dbe_grammar.proofs.Views.{form_of-Between}
use Rattle.dbe_grammar.proofs.AfterOperand.{between_front, between_low, between_and, between_high}
use Rattle.dbe_grammar.proofs.tails.between.Goals as goal

pub returns-in_default-clause-stop : goal.returns-in_default-clause-stop
returns-in_default-clause-stop c = between_low _ c.in_default.ensures.none

pub returns-in_default-after_and-clause-stop : goal.returns-in_default-after_and-clause-stop
returns-in_default-after_and-clause-stop c =
    between_and _ _ _ c.in-Some.ensures.some c.in_default-after_and.ensures.none

pub returns-in_default-operand-clause-stop : goal.returns-in_default-operand-clause-stop
returns-in_default-operand-clause-stop c =
    between_high _ _ _ _ c.in-Some.ensures.some c.in-Some-after_and.ensures.some c.in_default-operand.ensures.none

pub returns-clause-front : goal.returns-clause-front
returns-clause-front c = rw (form_of-Between c.args.value c.in-Some.low c.in-Some-operand.high)
    (between_front _ _ _ _ _ _ _ c.in-Some.ensures.some c.in-Some-after_and.ensures.some c.in-Some-operand.ensures.some)
