use Rattle.std.proofs.Common.{ap, sym, ◌∙◌}
use Rattle.dbe_cond.specs.Condition.{condition_of}
use Rattle.dbe_session.specs.Reply.{unless_refused, explain_reply}
use Rattle.dbe_session.proofs.Replies.{then_ok}
use Rattle.dbe_session.proofs.explaining.explained.Goals as goal

pub returns-in-Some : goal.returns-in-Some
returns-in-Some c = then_ok c.rewrite_refusal.result _ _ (λ text p e s same.
    p ∙ ap (λ fault. (unless_refused s fault (explain_reply e s (condition_of c.args.cond.now))).text)
    (sym c.in-Some.is ∙ c.in_ok-fault.ensures e s)) c.rewrite_refusal.ensures

pub returns-in-None : goal.returns-in-None
returns-in-None c = then_ok c.explained_text.result _ _ (λ text p e s same.
    p e s same ∙ ap (λ fault. (unless_refused s fault (explain_reply e s (condition_of c.args.cond.now))).text)
    (sym c.in-None.is ∙ c.in_ok-fault.ensures e s)) c.explained_text.ensures
