use Rattle.std.proofs.Common.{ap, ◌∙◌}
use Rattle.dbe_lines.specs.Requests.{request_of}
use Rattle.dbe_session.proofs.Replies.{empty_line, step_answered, step_unanswered, is_nothing, is_something, then_ok}
use Rattle.dbe_session.proofs.Replies.{then_err}
use Rattle.dbe_session.proofs.Maps.{step_stands, step_keeps}
use Rattle.dbe_session.proofs.session.Session.step.Goals as goal

pub returns-then-is_empty-clause-ok : goal.returns-then-is_empty-clause-ok
returns-then-is_empty-clause-ok g c = λ e s is. empty_line c.args.self.now e s _ is c.args.line.now _
    (is_nothing c.args.line.now c.if-is_empty.ensures) c.new.ensures.items

pub returns-clause-ok : goal.returns-clause-ok
returns-clause-ok g c = then_ok c.reply_to.result _ _ (λ text p e s is.
    step_answered c.args.self.now e s _ is c.args.line.now _ (c.in_ok-request.ensures.request ∙
    ap (λ st. request_of st c.args.line.now) c.config.ensures)
    (is_something c.args.line.now c.if-is_empty.ensures) _ _ _ (p e s is)) c.reply_to.ensures.ok

pub returns-clause-err : goal.returns-clause-err
returns-clause-err g c = then_err c.reply_to.result _ _ (λ p e s is.
    step_unanswered c.args.self.now e s _ is c.args.line.now _ (c.in_ok-request.ensures.request ∙
    ap (λ st. request_of st c.args.line.now) c.config.ensures)
    (is_something c.args.line.now c.if-is_empty.ensures) _ _ (p e s is)) c.reply_to.ensures.err

pub returns-then-is_empty-clause-map : goal.returns-then-is_empty-clause-map
returns-then-is_empty-clause-map g c = λ e s m is st. step_stands c.args.self.now e s m c.args.line.now _ _
    c.is_sealing.ensures is st _
    (returns-then-is_empty-clause-ok g c e s is)

pub returns-clause-map : goal.returns-clause-map
returns-clause-map g c = step_keeps c.args.self.now c.args.line.now _ _ c.reply_to.result c.is_sealing.ensures
    (returns-clause-ok g c)
    (returns-clause-err g c)
