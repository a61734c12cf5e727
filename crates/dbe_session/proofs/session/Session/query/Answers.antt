use Rattle.dbe_cond.specs.Condition.{condition_of}
use Rattle.dbe_session.proofs.Replies.{answered, not_answered, cond_refused, then_ok, then_err}
use Rattle.dbe_session.proofs.session.Session.query.Goals as goal

pub returns-in-Ok-clause-ok : goal.returns-in-Ok-clause-ok
returns-in-Ok-clause-ok g c = then_ok c.search.result _ _ (λ text p dice e s is.
    answered e s c.args.query.now (condition_of c.in-Ok.cond) _ _ _ _ dice (rw c.as_str.ensures at c.in-Ok.ensures.ok)
    is.rows c.search.ensures.same _ (p e s (record { config = is.config; rows = is.rows }))) c.search.ensures.ok

pub returns-in-Ok-clause-err : goal.returns-in-Ok-clause-err
returns-in-Ok-clause-err g c = then_err c.search.result _ _ (λ p dice e s is.
    not_answered e s c.args.query.now (condition_of c.in-Ok.cond) _ _ _ _ dice (rw c.as_str.ensures at
    c.in-Ok.ensures.ok)
    is.rows c.search.ensures.same (p e s (record { config = is.config; rows = is.rows }))) c.search.ensures.err

pub returns-in_ok-cond_refusal-in-Err-clause-ok : goal.returns-in_ok-cond_refusal-in-Err-clause-ok
returns-in_ok-cond_refusal-in-Err-clause-ok g c = λ dice e s is.
    cond_refused c.args.self.now e s _ is c.args.query.now c.in-Err.fault _ c.in_ok-cond_refusal-in-Err.ensures.told
    (rw c.as_str.ensures at c.in-Err.ensures.refused) c.in_ok-cond_refusal-in-Err.ensures.text
