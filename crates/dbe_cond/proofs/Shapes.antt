-- The shapes of conditions, one after another.
use Rattle.std.proofs.Common.{◌≡◌, ℕ, ◌+◌, ◌<◌, List, [], ◌∷◌, ◌++◌, take, length, get_or, sym, ap, ◌∙◌}
use Rattle.std.proofs.lemmas.List.{take_more}
use Rattle.dbe_grammar.specs.Form.{Form, Forms, none, some, form_of, members_of as forms_of}
use Rattle.dbe_grammar.specs.declared.tree.Tree.{Tree}
use Rattle.dbe_cond.specs.Condition.{condition_of, members_of}
use Rattle.dbe_cond.specs.Printed.{shape_of, all_shapes}
use Rattle.dbe_cond.specs.declared.cond.Cond.{Cond}

none_left : (f : Form) (fs : Forms) → none ≡ some f fs → ⊥
none_left f fs e = cc

last_shape : (trees : List Tree) (conds : List Cond) (t : Tree) (d : Cond) →
    forms_of trees ≡ all_shapes (members_of conds) → form_of t ≡ shape_of (condition_of d) →
    forms_of (trees ++ t ∷ []) ≡ all_shapes (members_of (conds ++ d ∷ []))
last_shape [] [] t d e h = ap (λ x. some x none) h
last_shape [] (c ∷ conds) t d e h = absurd (none_left _ _ e)
last_shape (x ∷ trees) [] t d e h = absurd (none_left _ _ (sym e))
last_shape (x ∷ trees) (c ∷ conds) t d e h =
    let first : form_of x ≡ shape_of (condition_of c) = cc in
    let rest : forms_of trees ≡ all_shapes (members_of conds) = cc in
    ap (λ a. some a (forms_of (trees ++ t ∷ []))) first ∙
    ap (λ b. some (shape_of (condition_of c)) b) (last_shape trees conds t d rest h)

pub shapes_more : (trees new : List Tree) (t : Tree) (conds : List Cond) (i : ℕ) (d : Cond) → i < length conds →
    d ≡ get_or conds i d → new ≡ trees ++ t ∷ [] → form_of t ≡ shape_of (condition_of d) →
    forms_of trees ≡ all_shapes (members_of (take i conds)) →
    forms_of new ≡ all_shapes (members_of (take (i + 1) conds))
shapes_more trees new t conds i d lt is pushed h e =
    ap forms_of pushed ∙ last_shape trees (take i conds) t d e h
    ∙ ap (λ x. all_shapes (members_of (take i conds ++ x ∷ []))) is ∙
    ap (λ x. all_shapes (members_of x)) (sym (take_more conds i d lt))
