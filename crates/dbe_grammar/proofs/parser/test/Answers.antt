use Rattle.dbe_grammar.proofs.Factors.{test_front, test_stops}
use Rattle.dbe_grammar.proofs.parser.test.Goals as goal

pub returns-in-Ok-clause-front : goal.returns-in-Ok-clause-front
returns-in-Ok-clause-front c = test_front _ _ _ _ c.in-Ok.ensures.front

pub returns-in-Err-clause-stop : goal.returns-in-Err-clause-stop
returns-in-Err-clause-stop c = test_stops _ _ _ c.in-Err.ensures.stop
