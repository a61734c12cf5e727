-- What is resolved has the shape of what was parsed.
use Rattle.std.proofs.Common.{◌≡◌, ◌≢◌, ℕ, zero, suc, ◌+◌, ◌<◌, Bool, true, List, [], ◌∷◌, ◌++◌, map, length, take}
use Rattle.std.proofs.Common.{get_or, refl, sym, ap, subst, ◌∙◌, arith}
use Rattle.std.proofs.lemmas.Bool.{and_parts}
use Rattle.std.proofs.lemmas.List.{take_more}
use Rattle.dbe_values.specs.declared.value.AttrValue.{AttrValue}
use Rattle.dbe_tokens.specs.declared.token.Operand.{Operand as TokenOperand}
use Rattle.dbe_grammar.specs.Form.{Form, Forms}
use Rattle.dbe_grammar.specs.Form as f
use Rattle.dbe_grammar.specs.declared.tree.Tree.{Tree}
use Rattle.dbe_grammar.specs.Leaves.{form_passes, forms_pass}
use Rattle.dbe_grammar.proofs.Lawful.{cond_lawful}
use Rattle.dbe_cond.specs.Condition.{Condition, Conditions, none, some, condition_of, members_of, IsLawful, AreLawful}
use Rattle.dbe_cond.specs.Condition.{HaveTwo}
use Rattle.dbe_cond.specs.declared.cond.Cond.{Cond}
use Rattle.dbe_cond.specs.Resolved.{operand_of, resolved, all_resolved}
use Rattle.dbe_cond.specs.Reading.{Reads}

abbrev Pairs : Type 0 → Type 0
Pairs X = List (List ℕ × X)

two_resolved : (text : List ℕ) (names : Pairs (List ℕ)) (values : Pairs AttrValue) (forms : Forms) → f.HaveTwo forms →
    HaveTwo (all_resolved text names values forms)
two_resolved text names values f.none h = absurd h
two_resolved text names values (f.some a f.none) h = absurd h
two_resolved text names values (f.some a (f.some b forms)) h = tt

some_resolved : (text : List ℕ) (names : Pairs (List ℕ)) (values : Pairs AttrValue) (list : List TokenOperand) →
    list ≢ [] → map (operand_of text names values) list ≢ []
some_resolved text names values [] h = absurd (h refl)
some_resolved text names values (a ∷ list) h = λ e. cc

mutual
  resolved_lawful : (text : List ℕ) (names : Pairs (List ℕ)) (values : Pairs AttrValue) (form : Form) →
      f.IsLawful form → IsLawful (resolved text names values form)
  resolved_lawful text names values (f.compare left op right) h = tt
  resolved_lawful text names values (f.between value low high) h = tt
  resolved_lawful text names values (f.within value list) h = some_resolved text names values list h
  resolved_lawful text names values (f.begins name front) h = tt
  resolved_lawful text names values (f.exists name) h = tt
  resolved_lawful text names values (f.lacks name) h = tt
  resolved_lawful text names values (f.not form) h = resolved_lawful text names values form h
  resolved_lawful text names values (f.and forms) h = (
    two_resolved text names values forms h.0,
    all_resolved_lawful text names values forms h.1,
  )
  resolved_lawful text names values (f.or forms) h = (
    two_resolved text names values forms h.0,
    all_resolved_lawful text names values forms h.1,
  )

  all_resolved_lawful : (text : List ℕ) (names : Pairs (List ℕ)) (values : Pairs AttrValue) (forms : Forms) →
      f.AreLawful forms → AreLawful (all_resolved text names values forms)
  all_resolved_lawful text names values f.none h = tt
  all_resolved_lawful text names values (f.some form forms) h = (
    resolved_lawful text names values form h.0,
    all_resolved_lawful text names values forms h.1,
  )

pub reads_lawful : (text : List ℕ) (names : Pairs (List ℕ)) (values : Pairs AttrValue) (c : Condition) →
    Reads text names values c → IsLawful c
reads_lawful text names values c x =
    subst IsLawful (sym x.means) (resolved_lawful text names values x.form (cond_lawful x.tokens x.form x.parses.cond))

-- what passes for members passes for one
pub member_passes : (p : TokenOperand → Bool) (trees : List Tree) (i : ℕ) (r : Tree) → i < length trees →
    r ≡ get_or trees i r → forms_pass p (f.members_of trees) ≡ true → form_passes p (f.form_of r) ≡ true
member_passes p [] i r lt is h = absurd (omega arith)
member_passes p (tree ∷ trees) zero r lt is h = ap (λ x. form_passes p (f.form_of x)) is ∙
    (and_parts (form_passes p (f.form_of tree)) (forms_pass p (f.members_of trees)) h).0
member_passes p (tree ∷ trees) (suc i) r lt is h =
    member_passes p trees i r (omega arith) is (and_parts (form_passes p (f.form_of tree))
    (forms_pass p (f.members_of trees)) h).1

module _ (text : List ℕ) (names : Pairs (List ℕ)) (values : Pairs AttrValue) where
  none_left : (c : Condition) (cs : Conditions) → none ≡ some c cs → ⊥
  none_left c cs e = cc

  last_resolved : (conds : List Cond) (trees : List Tree) (d : Cond) (r : Tree) →
      members_of conds ≡ all_resolved text names values (f.members_of trees) →
      condition_of d ≡ resolved text names values (f.form_of r) →
      members_of (conds ++ d ∷ []) ≡ all_resolved text names values (f.members_of (trees ++ r ∷ []))
  last_resolved [] [] d r e h = ap (λ x. some x none) h
  last_resolved [] (x ∷ trees) d r e h = absurd (none_left _ _ e)
  last_resolved (c ∷ conds) [] d r e h = absurd (none_left _ _ (sym e))
  last_resolved (c ∷ conds) (x ∷ trees) d r e h =
      let first : condition_of c ≡ resolved text names values (f.form_of x) = cc in
      let rest : members_of conds ≡ all_resolved text names values (f.members_of trees) = cc in
      ap (λ a. some a (members_of (conds ++ d ∷ []))) first ∙
      ap (λ b. some (resolved text names values (f.form_of x)) b) (last_resolved conds trees d r rest h)

  pub resolved_more : (conds new : List Cond) (d : Cond) (trees : List Tree) (i : ℕ) (r : Tree) → i < length trees →
      r ≡ get_or trees i r → new ≡ conds ++ d ∷ [] → condition_of d ≡ resolved text names values (f.form_of r) →
      members_of conds ≡ all_resolved text names values (f.members_of (take i trees)) →
      members_of new ≡ all_resolved text names values (f.members_of (take (i + 1) trees))
  resolved_more conds new d trees i r lt is pushed h e =
      ap members_of pushed ∙ last_resolved conds (take i trees) d r e h
      ∙ ap (λ x. all_resolved text names values (f.members_of (take i trees ++ x ∷ []))) is ∙
      ap (λ x. all_resolved text names values (f.members_of x)) (sym (take_more trees i r lt))
