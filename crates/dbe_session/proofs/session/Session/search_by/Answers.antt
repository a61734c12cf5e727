use Rattle.std.proofs.Common.{ap, ◌∙◌}
use Rattle.dbe_cond.specs.Condition.{condition_of}
use Rattle.dbe_session.specs.Reply.{selection_text}
use Rattle.dbe_session.proofs.Replies.{selected}
use Rattle.dbe_session.proofs.session.Session.search_by.Goals as goal

pub returns-clause-ok : goal.returns-clause-ok
returns-clause-ok g c = λ e s is.
    selected c.args.self.now e s (condition_of c.args.cond.now) c.args.wanted.now _ _ _ _ _ is c.requires.wanted
    c.in_ok-found.ensures.found c.in_ok-found.ensures.given
    (c.in_ok-selection_text.ensures e s (c.config.ensures ∙ is.config) ∙
    ap (selection_text e s (condition_of c.args.cond.now)) c.deref.ensures.value)
