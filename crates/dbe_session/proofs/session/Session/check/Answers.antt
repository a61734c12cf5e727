use Rattle.dbe_session.proofs.Replies.{on_err, looked_row, looked_none, not_looked}
use Rattle.dbe_session.proofs.session.Session.check.Goals as goal

pub returns-in_err-checked-in-Some-clause-err : goal.returns-in_err-checked-in-Some-clause-err
returns-in_err-checked-in-Some-clause-err g c = on_err c.from_residual-in_err-checked-in-Some.result _ (λ dice e s is.
    not_looked c.args.self.now e s c.args.key.now _ _ _ _ _ dice c.in_ok-row.row c.requires.begun is
    c.in_ok-row.ensures.found c.in_ok-row.ensures.same c.in_ok-row.ensures.given)

pub returns-in_ok-checked-in-Some-clause-ok : goal.returns-in_ok-checked-in-Some-clause-ok
returns-in_ok-checked-in-Some-clause-ok g c = λ dice e s is.
    looked_row c.args.self.now e s c.args.key.now _ _ _ _ _ dice c.in_ok-row.row c.requires.begun is
    c.in_ok-row.ensures.found c.in_ok-row.ensures.same c.in_ok-row.ensures.given c.in-Some.row _ c.in-Some.is
    c.in_ok-checked-in-Some.ensures

pub returns-in_ok-none_text-in-None-clause-ok : goal.returns-in_ok-none_text-in-None-clause-ok
returns-in_ok-none_text-in-None-clause-ok g c = λ dice e s is.
    looked_none c.args.self.now e s c.args.key.now _ _ _ _ _ dice c.in_ok-row.row c.requires.begun is
    c.in_ok-row.ensures.found c.in_ok-row.ensures.same c.in_ok-row.ensures.given _ c.in-None.is
    c.in_ok-none_text-in-None.ensures
