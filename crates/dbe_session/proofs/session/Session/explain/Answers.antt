use Rattle.std.proofs.Common.{◌∙◌}
use Rattle.dbe_cond.specs.Condition.{condition_of}
use Rattle.dbe_session.proofs.Replies.{explained, explain_refused, then_ok, both_ok}
use Rattle.dbe_session.proofs.session.Session.explain.Goals as goal

pub returns-in-Ok : goal.returns-in-Ok
returns-in-Ok c = then_ok c.explained.result _ _ (λ text p objects e s is.
    explained c.args.self.now e s objects is c.args.query.now (condition_of c.in-Ok.cond) _
    (rw c.as_str.ensures at c.in-Ok.ensures.ok) (p e s (c.config.ensures ∙ is.config))) c.explained.ensures

pub returns-in-Err : goal.returns-in-Err
returns-in-Err c = both_ok c.cond_refusal.result _ _ _ (λ text told_fault p objects e s is.
    explain_refused c.args.self.now e s objects is c.args.query.now c.in-Err.fault _ told_fault
    (rw c.as_str.ensures at c.in-Err.ensures.refused) p) c.cond_refusal.ensures.told c.cond_refusal.ensures.text
