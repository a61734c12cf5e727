use Rattle.std.proofs.Common.{ap, sym}
use Rattle.dbe_cond.specs.Condition.{condition_of}
use Rattle.dbe_session.specs.Steps.{only_of}
use Rattle.dbe_session.proofs.Replies.{refusal_is, searched, not_searched, then_ok, then_err}
use Rattle.dbe_session.proofs.session.Session.search.Goals as goal

pub returns-in_ok-rewrite_refusal-in-Some-clause-ok : goal.returns-in_ok-rewrite_refusal-in-Some-clause-ok
returns-in_ok-rewrite_refusal-in-Some-clause-ok g c = λ e s is.
    refusal_is e s (condition_of c.in-Only.cond) (only_of c.args.only.now) (ap only_of (sym c.in-Only.is)) _
    (c.in_ok-fault.ensures e s) c.in-Some.fault _ _ c.in-Some.is c.in_ok-rewrite_refusal-in-Some.ensures

pub returns-in-None-clause-ok : goal.returns-in-None-clause-ok
returns-in-None-clause-ok g c = then_ok c.search_rows.result _ _ (λ text p e s is.
    searched e s (condition_of c.in-Only.cond) (only_of c.args.only.now) (ap only_of (sym c.in-Only.is)) _
    (c.in_ok-fault.ensures e s) text.items _ _ c.in-None.is (p e s is)) c.search_rows.ensures.ok

pub returns-in-None-clause-err : goal.returns-in-None-clause-err
returns-in-None-clause-err g c = then_err c.search_rows.result _ _ (λ p e s is.
    not_searched e s (condition_of c.in-Only.cond) (only_of c.args.only.now) (ap only_of (sym c.in-Only.is)) _
    (c.in_ok-fault.ensures e s) _ _ c.in-None.is (p e s is)) c.search_rows.ensures.err
