use Rattle.std.proofs.Common.{refl, ap, ◌∙◌, codes}
use Rattle.dbe_lines.specs.Texts.{refused_name_for, refused_name, value_word}
use Rattle.dbe_lines.specs.declared.request.Request.TheVariants as r
use Rattle.dbe_session.proofs.Replies.{plain_reply, then_err}
use Rattle.dbe_session.proofs.session.Session.reply_to.Goals as goal

pub returns-in_ok-refused_text-in-NotJson-clause-ok : goal.returns-in_ok-refused_text-in-NotJson-clause-ok
returns-in_ok-refused_text-in-NotJson-clause-ok g c =
    λ e s is. rw (c.in-NotJson.is) (plain_reply c.args.self.now e s _ is r.NotJson _ _
    c.in_ok-refused_text-in-NotJson.ensures tt tt tt refl refl)

pub returns-in_ok-refused_text-in-Shape-clause-ok : goal.returns-in_ok-refused_text-in-Shape-clause-ok
returns-in_ok-refused_text-in-Shape-clause-ok g c =
    λ e s is. rw (c.in-Shape.is) (plain_reply c.args.self.now e s _ is r.Shape _ _
    c.in_ok-refused_text-in-Shape.ensures tt tt tt refl refl)

pub returns-in_ok-refused_text-in-NotBuilt-clause-ok : goal.returns-in_ok-refused_text-in-NotBuilt-clause-ok
returns-in_ok-refused_text-in-NotBuilt-clause-ok g c =
    λ e s is. rw (c.in-NotBuilt.is) (plain_reply c.args.self.now e s _ is r.NotBuilt _ _
    c.in_ok-refused_text-in-NotBuilt.ensures tt tt tt refl refl)

pub returns-in_ok-value_refusal-in-Value-clause-ok : goal.returns-in_ok-value_refusal-in-Value-clause-ok
returns-in_ok-value_refusal-in-Value-clause-ok g c =
    λ e s is. rw (c.in-Value.is) (plain_reply c.args.self.now e s _ is (r.Value _ _) _ _
    (c.in_ok-value_refusal-in-Value.ensures ∙ ap (refused_name_for (codes "value") (value_word c.in-Value.why))
    c.as_str.ensures) tt tt tt refl refl)

pub returns-in_ok-refused_name-in-Key-clause-ok : goal.returns-in_ok-refused_name-in-Key-clause-ok
returns-in_ok-refused_name-in-Key-clause-ok g c =
    λ e s is. rw (c.in-Key.is) (plain_reply c.args.self.now e s _ is (r.Key _) _ _
    (c.in_ok-refused_name-in-Key.ensures ∙ ap (refused_name (codes "key")) c.as_str-in-Key.ensures) tt tt tt refl refl)

pub returns-in-Get-clause-err : goal.returns-in-Get-clause-err
returns-in-Get-clause-err g c = then_err c.get.result _ _ (λ p e s is. rw (c.in-Get.is) (p _ e s is)) c.get.ensures.err

pub returns-in-Check-clause-err : goal.returns-in-Check-clause-err
returns-in-Check-clause-err g c = then_err c.check.result _ _ (λ p e s is. rw (c.in-Check.is) (p _ e s is))
    c.check.ensures.err

pub returns-in-Query-clause-err : goal.returns-in-Query-clause-err
returns-in-Query-clause-err g c = then_err c.query.result _ _ (λ p e s is. rw (c.in-Query.is) (p _ e s is))
    c.query.ensures.err
