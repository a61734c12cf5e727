use Rattle.std.proofs.Common.{sym, ◌∙◌, eqb-true}
use Rattle.std.proofs.lemmas.Bool.{eqb-false}
use Rattle.dbe_num.proofs.Digits.{joined_end_past, joined_end_within}
use Rattle.dbe_num.proofs.numeral.without_trailing.Goals as goal

pub returns-then-is_empty : goal.returns-then-is_empty
returns-then-is_empty c =
    joined_end_past c.args.whole.now c.args.fraction.now _ _ c.drop_zeros.ensures c.drop_zeros-fraction.ensures
    (eqb-true _ 0 (sym c.is_empty.ensures ∙ c.if-is_empty.true))

pub returns-else-is_empty : goal.returns-else-is_empty
returns-else-is_empty c =
    joined_end_within c.args.whole.now c.args.fraction.now _ c.drop_zeros-fraction.ensures
    (eqb-false _ 0 (sym c.is_empty.ensures ∙ c.if-is_empty.false))
