use Rattle.std.proofs.Common.{ap, sym, ◌∙◌, subst}
use Rattle.dbe_num.specs.Decimal.{IsNormal}
use Rattle.dbe_num.proofs.Compared.{negative_first, negative_last}
use Rattle.dbe_num.proofs.number.Number.compare.Goals as goal

pub returns-in-true-false : goal.returns-in-true-false
returns-in-true-false c =
    negative_first c.args.self.now c.args.other.now (subst (λ d. IsNormal d) c.self.view_is c.self.invariant.1)
    (sym (ap (λ d. d.negative) c.self.view_is) ∙ c.in-true-false.is-0) (sym (ap (λ d. d.negative) c.other.view_is)
    ∙ c.in-true-false.is-1)

pub returns-in-false-true : goal.returns-in-false-true
returns-in-false-true c =
    negative_last c.args.self.now c.args.other.now (subst (λ d. IsNormal d) c.other.view_is c.other.invariant.1)
    (sym (ap (λ d. d.negative) c.self.view_is) ∙ c.in-false-true.is-0) (sym (ap (λ d. d.negative) c.other.view_is)
    ∙ c.in-false-true.is-1)
