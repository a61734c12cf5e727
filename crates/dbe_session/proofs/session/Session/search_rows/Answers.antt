use Rattle.std.proofs.Common.{ap, sym, ◌∙◌}
use Rattle.dbe_cond.specs.Condition.{condition_of}
use Rattle.dbe_session.specs.Reply.{has_computed}
use Rattle.dbe_session.proofs.Computed.{every_handed_out}
use Rattle.dbe_session.proofs.session.Session.search_rows.Goals as goal

pub search_by-requires-clause-wanted : goal.search_by-requires-clause-wanted
search_by-requires-clause-wanted g c = λ e s is. every_handed_out e s (condition_of c.args.cond.now)
    (sym (c.has_computed.ensures ∙ ap (λ st. has_computed st (condition_of c.args.cond.now)) (c.config.ensures ∙ is))
    ∙ c.if-has_computed.true)
