use Rattle.std.proofs.Common.{sym, refl, ◌∙◌}
use Rattle.std.proofs.lemmas.Bool.{eqb-true, eqb-false}
use Rattle.dbe_grammar.proofs.Whole.{cond_unique, place_unique, whole_found, front_whole, stuck_whole}
use Rattle.dbe_grammar.proofs.parser.parse.Goals as goal

pub returns-then-is_empty-clause-only : goal.returns-then-is_empty-clause-only
returns-then-is_empty-clause-only c = λ wanted is.
    cond_unique _ _ _ (whole_found _ _ _ c.in-Ok.ensures.front (eqb-true _ 0 (sym c.is_empty.ensures ∙
    c.if-is_empty.true))) is

pub returns-then-is_empty-clause-refused : goal.returns-then-is_empty-clause-refused
returns-then-is_empty-clause-refused c = λ at is.
    is.none _ (whole_found _ _ _ c.in-Ok.ensures.front (eqb-true _ 0 (sym c.is_empty.ensures ∙ c.if-is_empty.true)))

pub returns-else-is_empty-clause-misfit : goal.returns-else-is_empty-clause-misfit
returns-else-is_empty-clause-misfit c =
    front_whole _ _ _ _ c.in-Ok.ensures.front (eqb-false _ 0 (sym c.is_empty.ensures ∙ c.if-is_empty.false)) refl

pub returns-else-is_empty-clause-only : goal.returns-else-is_empty-clause-only
returns-else-is_empty-clause-only c = λ wanted is.
    (front_whole _ _ _ _ c.in-Ok.ensures.front (eqb-false _ 0 (sym c.is_empty.ensures ∙ c.if-is_empty.false))
    refl).none wanted is

pub returns-else-is_empty-clause-refused : goal.returns-else-is_empty-clause-refused
returns-else-is_empty-clause-refused c = λ at is.
    place_unique _ _ at (front_whole _ _ _ _ c.in-Ok.ensures.front (eqb-false _ 0 (sym c.is_empty.ensures ∙
    c.if-is_empty.false)) refl) is

pub returns-in-Err-Misfit-clause-misfit : goal.returns-in-Err-Misfit-clause-misfit
returns-in-Err-Misfit-clause-misfit c =
    stuck_whole _ _ _ (rw c.in-Err-Misfit.field-0-is at c.in-Err-Misfit.ensures.stop) refl

pub returns-in-Err-Misfit-clause-only : goal.returns-in-Err-Misfit-clause-only
returns-in-Err-Misfit-clause-only c =
    λ wanted is. (stuck_whole _ _ _ (rw c.in-Err-Misfit.field-0-is at c.in-Err-Misfit.ensures.stop) refl).none wanted is

pub returns-in-Err-Misfit-clause-refused : goal.returns-in-Err-Misfit-clause-refused
returns-in-Err-Misfit-clause-refused c =
    λ at is. place_unique _ _ at (stuck_whole _ _ _ (rw c.in-Err-Misfit.field-0-is at c.in-Err-Misfit.ensures.stop)
    refl) is

pub returns-else-is_empty-clause-begins : goal.returns-else-is_empty-clause-begins
returns-else-is_empty-clause-begins c =
    (front_whole _ _ _ _ c.in-Ok.ensures.front (eqb-false _ 0 (sym c.is_empty.ensures ∙ c.if-is_empty.false))
    refl).begins

pub returns-else-is_empty-clause-fails : goal.returns-else-is_empty-clause-fails
returns-else-is_empty-clause-fails c =
    (front_whole _ _ _ _ c.in-Ok.ensures.front (eqb-false _ 0 (sym c.is_empty.ensures ∙ c.if-is_empty.false))
    refl).fails

pub returns-in-Err-Misfit-clause-begins : goal.returns-in-Err-Misfit-clause-begins
returns-in-Err-Misfit-clause-begins c =
    (stuck_whole _ _ _ (rw c.in-Err-Misfit.field-0-is at c.in-Err-Misfit.ensures.stop) refl).begins

pub returns-in-Err-Misfit-clause-fails : goal.returns-in-Err-Misfit-clause-fails
returns-in-Err-Misfit-clause-fails c =
    (stuck_whole _ _ _ (rw c.in-Err-Misfit.field-0-is at c.in-Err-Misfit.ensures.stop) refl).fails
