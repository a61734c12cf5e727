use Rattle.dbe_grammar.proofs.Views.{form_of-BeginsWith}
use Rattle.dbe_grammar.proofs.Factors.{begins_front, begins_stops}
use Rattle.dbe_grammar.proofs.parser.begins_with.Goals as goal

pub returns-in-Ok-clause-front : goal.returns-in-Ok-clause-front
returns-in-Ok-clause-front c = rw (form_of-BeginsWith c.in-Ok.name c.in-Ok.front)
    (begins_front _ _ _ _ c.in-Ok.ensures.front)

pub returns-in-Err-clause-stop : goal.returns-in-Err-clause-stop
returns-in-Err-clause-stop c = begins_stops _ _ c.in-Err.ensures.stop
