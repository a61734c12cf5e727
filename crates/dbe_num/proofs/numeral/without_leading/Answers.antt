use Rattle.std.proofs.Common.{sym, ◌∙◌, eqb-true}
use Rattle.std.proofs.lemmas.Bool.{eqb-false}
use Rattle.dbe_num.proofs.Digits.{joined_past, joined_within}
use Rattle.dbe_num.proofs.numeral.without_leading.Goals as goal

pub returns-then-is_empty : goal.returns-then-is_empty
returns-then-is_empty c =
    joined_past c.args.whole.now c.args.fraction.now _ _ c.skip_zeros-whole.ensures c.skip_zeros.ensures
    (eqb-true _ 0 (sym c.is_empty.ensures ∙ c.if-is_empty.true))

pub returns-else-is_empty : goal.returns-else-is_empty
returns-else-is_empty c =
    joined_within c.args.whole.now c.args.fraction.now _ c.skip_zeros-whole.ensures
    (eqb-false _ 0 (sym c.is_empty.ensures ∙ c.if-is_empty.false))
