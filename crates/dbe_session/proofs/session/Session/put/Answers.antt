use Rattle.std.proofs.Common.{sym}
use Rattle.dbe_session.proofs.Replies.{put_made, put_refused, put_split, then_ok}
use Rattle.dbe_session.proofs.session.Session.put.Goals as goal

pub returns-clause-ok : goal.returns-clause-ok
returns-clause-ok g c = then_ok c.store.result _ _ (λ text p e s is.
    put_made c.args.self.now e s _ _ _ is c.args.item c.is_lawful.ensures _ _ _ text.items (rw c.config.ensures at
    c.in-Ok.ensures.ok)
    (sym (rw (c.in_default.is, c.config-2.ensures) at c.in_ok-at.ensures)) c.store.ensures.given (p e s is))
    c.store.ensures.ok

pub returns-in-Some-clause-ok : goal.returns-in-Some-clause-ok
returns-in-Some-clause-ok g c = λ e s is.
    put_split c.args.self.now e s _ _ _ is c.args.item c.is_lawful.ensures (
      c.in-Some.at.beacon,
      c.in-Some.at.part,
    ) _ (rw c.config.ensures at c.in-Ok.ensures.ok) (rw (
      c.in-Some.is,
      c.config-2.ensures,
    ) at c.in_ok-at.ensures) (rw (c.as_str.ensures, c.as_str-in-Some.ensures) at
    c.in_ok-split_text.ensures)

pub returns-in-Err-clause-ok : goal.returns-in-Err-clause-ok
returns-in-Err-clause-ok g c = λ e s is.
    put_refused c.args.self.now e s _ _ _ is c.args.item c.is_lawful.ensures c.in-Err.fault _ (rw c.config.ensures
    at c.in-Err.ensures.err
    c.in_ok-put_refusal-in-Err.ensures.told) c.in_ok-put_refusal-in-Err.ensures.text
