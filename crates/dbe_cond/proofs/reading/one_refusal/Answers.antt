use Rattle.dbe_cond.proofs.Readings.{not_refused, refusal_unique}
use Rattle.dbe_cond.proofs.reading.one_refusal.Goals as goal

pub returns-clause-none : goal.returns-clause-none
returns-clause-none c = not_refused

pub returns-clause-one : goal.returns-clause-one
returns-clause-one c = refusal_unique
