use Rattle.dbe_grammar.proofs.Views.{form_of-Exists}
use Rattle.dbe_grammar.proofs.Factors.{exists_front, exists_stops}
use Rattle.dbe_grammar.proofs.parser.exists.Goals as goal

pub returns-in-Ok-clause-front : goal.returns-in-Ok-clause-front
returns-in-Ok-clause-front c = rw (form_of-Exists c.in-Ok.name) (exists_front _ _ _ c.in-Ok.ensures.front)

pub returns-in-Err-clause-stop : goal.returns-in-Err-clause-stop
returns-in-Err-clause-stop c = exists_stops _ _ c.in-Err.ensures.stop
