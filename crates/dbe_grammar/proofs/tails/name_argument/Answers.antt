use Rattle.dbe_grammar.proofs.Arguments.{name_open, name_name, name_close}
use Rattle.dbe_grammar.proofs.tails.name_argument.Goals as goal

pub returns-in_default-clause-stop : goal.returns-in_default-clause-stop
returns-in_default-clause-stop c = name_open _ c.in_default.ensures.none

pub returns-in_default-name-clause-stop : goal.returns-in_default-name-clause-stop
returns-in_default-name-clause-stop c = name_name _ _ c.in-Some.ensures.some c.in_default-name.ensures.none

pub returns-in_default-after_close-clause-stop : goal.returns-in_default-after_close-clause-stop
returns-in_default-after_close-clause-stop c = name_close _ _ _ _ c.in-Some.ensures.some c.in-Some-name.ensures.some
    c.in_default-after_close.ensures.none
