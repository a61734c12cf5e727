use Rattle.dbe_grammar.proofs.Views.{form_of-NotExists}
use Rattle.dbe_grammar.proofs.Factors.{lacks_front, lacks_stops}
use Rattle.dbe_grammar.proofs.parser.lacks.Goals as goal

pub returns-in-Ok-clause-front : goal.returns-in-Ok-clause-front
returns-in-Ok-clause-front c = rw (form_of-NotExists c.in-Ok.name) (lacks_front _ _ _ c.in-Ok.ensures.front)

pub returns-in-Err-clause-stop : goal.returns-in-Err-clause-stop
returns-in-Err-clause-stop c = lacks_stops _ _ c.in-Err.ensures.stop
