use Rattle.dbe_grammar.proofs.Arguments.{pair_open, pair_name, pair_comma, pair_front, pair_close}
use Rattle.dbe_grammar.proofs.tails.pair_argument.Goals as goal

pub returns-in_default-clause-stop : goal.returns-in_default-clause-stop
returns-in_default-clause-stop c = pair_open _ c.in_default.ensures.none

pub returns-in_default-name-clause-stop : goal.returns-in_default-name-clause-stop
returns-in_default-name-clause-stop c = pair_name _ _ c.in-Some.ensures.some c.in_default-name.ensures.none

pub returns-in_default-after_comma-clause-stop : goal.returns-in_default-after_comma-clause-stop
returns-in_default-after_comma-clause-stop c = pair_comma _ _ _ _ c.in-Some.ensures.some c.in-Some-name.ensures.some
    c.in_default-after_comma.ensures.none

pub returns-in_default-operand-clause-stop : goal.returns-in_default-operand-clause-stop
returns-in_default-operand-clause-stop c = pair_front _ _ _ _ _ c.in-Some.ensures.some c.in-Some-name.ensures.some
    c.in-Some-after_comma.ensures.some c.in_default-operand.ensures.none

pub returns-in_default-after_close-clause-stop : goal.returns-in_default-after_close-clause-stop
returns-in_default-after_close-clause-stop c =
    pair_close _ _ _ _ _ _ _ c.in-Some.ensures.some c.in-Some-name.ensures.some c.in-Some-after_comma.ensures.some
    c.in-Some-operand.ensures.some c.in_default-after_close.ensures.none
