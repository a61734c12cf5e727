use Rattle.std.proofs.Common.{sym, ◌∙◌}
use Rattle.dbe_cond.specs.Condition.{condition_of}
use Rattle.dbe_session.proofs.Computed.{selects_same, selects_by}
use Rattle.dbe_session.proofs.searching.selects.Goals as goal

pub returns-in_ok-values_of-in-Some : goal.returns-in_ok-values_of-in-Some
returns-in_ok-values_of-in-Some c =
    c.holds-in-Some.ensures ∙ selects_by c.args.config.now (condition_of c.args.cond.now) c.args.item.now
    c.in_ok-values_of-in-Some.field-0 c.in-Some.names.now (rw c.in-Some.is at c.requires)
    c.in_ok-values_of-in-Some.ensures

pub returns-in-None : goal.returns-in-None
returns-in-None c = c.holds-in-None.ensures ∙
    sym (selects_same c.args.config.now (condition_of c.args.cond.now) c.args.item.now (rw c.in-None.is at c.requires))
