use Rattle.dbe_grammar.proofs.Views.{form_of-Compare}
use Rattle.dbe_grammar.proofs.AfterOperand.{compare_front, compare_stuck}
use Rattle.dbe_grammar.proofs.tails.compare.Goals as goal

pub returns-in-Some-clause-front : goal.returns-in-Some-clause-front
returns-in-Some-clause-front c = rw (form_of-Compare c.args.left c.args.op c.in-Some.right) (compare_front _ _ _ _ _
    c.in-Some.ensures.some)

pub returns-in-None-clause-stop : goal.returns-in-None-clause-stop
returns-in-None-clause-stop c = compare_stuck _ _ c.in-None.ensures.none
