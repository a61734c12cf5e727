-- Places of a text at which what is given for the placeholders are the names and values of a condition.
use Rattle.std.proofs.Common.{◌≡◌, ℕ, List, [], ◌∷◌, ◌++◌, map, Some, refl, ap, subst, ◌∙◌, append_assoc}
use Rattle.std.specs.Prelude.{unwrap_or}
use Rattle.dbe_values.specs.declared.value.AttrValue.{AttrValue}
use Rattle.dbe_values.specs.declared.value.AttrValue.TheVariants.{Null}
use Rattle.dbe_tokens.specs.Text.{bytes_in}
use Rattle.dbe_tokens.specs.declared.token.Span.{Span}
use Rattle.dbe_cond.specs.Condition.{Condition, Conditions, compare, between, within, begins, exists, lacks, not, and}
use Rattle.dbe_cond.specs.Condition.{or, none, some}
use Rattle.dbe_cond.specs.Given.{given}
use Rattle.dbe_cond.specs.Resolved.{operand_of, resolved, all_resolved}
use Rattle.dbe_cond.specs.Printed.{operand_shape, shape_of, all_shapes}
use Rattle.dbe_cond.specs.declared.operand.Operand.{Operand}
use Rattle.dbe_cond.specs.declared.operand.Operand.TheVariants.{Name, Value}
use Rattle.dbe_cond.proofs.PrintedLeaves.{leaves_of, all_leaves}
use Rattle.dbe_cond.proofs.Relabelled.{first, rest, placed_at, relabelled, all_relabelled, relabelled_list, after}
use Rattle.dbe_cond.proofs.Relabelled.{after_all, after_list}

module _ (text : List ℕ) (names : List (List ℕ × List ℕ)) (values : List (List ℕ × AttrValue)) where
  -- what is given for the placeholder at this place
  abbrev pub Finds : Span → Operand → Type 0
  Finds s (Name name) = given (bytes_in text s) names ≡ Some name
  Finds s (Value v) = given (bytes_in text s) values ≡ Some v

  -- the same of as many places as there are names and values
  abbrev pub Fits : List Span → List Operand → Type 0
  Fits [] [] = Unit {0}
  Fits [] (a ∷ leaves) = ⊥
  Fits (s ∷ ss) [] = ⊥
  Fits (s ∷ ss) (a ∷ leaves) = Finds s a × Fits ss leaves

  found_operand : (s : Span) (a : Operand) → Finds s a → operand_of text names values (placed_at s (operand_shape a))
      ≡ a
  found_operand s (Name name) h = ap (λ x. Name (unwrap_or x [])) h
  found_operand s (Value v) h = ap (λ x. Value (unwrap_or x Null)) h

  first_fits : (ss : List Span) (a : Operand) (leaves : List Operand) → Fits ss (a ∷ leaves) → Finds (first ss) a ×
      Fits (rest ss) leaves
  first_fits [] a leaves h = absurd h
  first_fits (s ∷ ss) a leaves h = h

  list_fits : (list : List Operand) (ss : List Span) (leaves : List Operand) → Fits ss (list ++ leaves) →
      (map (operand_of text names values) (relabelled_list ss (map operand_shape list)) ≡ list) ×
      Fits (after_list ss (map operand_shape list)) leaves
  list_fits [] ss leaves h = (refl, h)
  list_fits (a ∷ list) ss leaves h =
      let x = first_fits ss a (list ++ leaves) h in
      let y = list_fits list (rest ss) leaves x.1 in (
        ap (λ z. z ∷ map (operand_of text names values) (relabelled_list (rest ss) (map operand_shape list)))
            (found_operand (first ss) a x.0) ∙ ap (λ z. a ∷ z) y.0,
        y.1,
      )

  mutual
    pub resolved_fits : (c : Condition) (ss : List Span) (leaves : List Operand) → Fits ss (leaves_of c ++ leaves) →
        (resolved text names values (relabelled ss (shape_of c)) ≡ c) × Fits (after ss (shape_of c)) leaves
    resolved_fits (compare left op right) ss leaves h =
        let x = first_fits ss left (right ∷ leaves) h in
        let y = first_fits (rest ss) right leaves x.1 in (
          ap (λ z. compare z op (operand_of text names values (placed_at (first (rest ss)) (operand_shape right))))
              (found_operand (first ss) left x.0) ∙
              ap (λ z. compare left op z) (found_operand (first (rest ss)) right y.0),
          y.1,
        )
    resolved_fits (between value low high) ss leaves h =
        let x = first_fits ss value (low ∷ high ∷ leaves) h in
        let y = first_fits (rest ss) low (high ∷ leaves) x.1 in
        let z = first_fits (rest (rest ss)) high leaves y.1 in (
          ap (λ w. between w (operand_of text names values (placed_at (first (rest ss)) (operand_shape low)))
              (operand_of text names values (placed_at (first (rest (rest ss))) (operand_shape high))))
              (found_operand (first ss) value x.0)
              ∙ ap (λ w. between value w (operand_of text names values (placed_at (first (rest (rest ss)))
              (operand_shape high)))) (found_operand (first (rest ss)) low y.0)
              ∙ ap (λ w. between value low w) (found_operand (first (rest (rest ss))) high z.0),
          z.1,
        )
    resolved_fits (within value list) ss leaves h =
        let x = first_fits ss value (list ++ leaves) h in
        let y = list_fits list (rest ss) leaves x.1 in (
          ap (λ w. within w (map (operand_of text names values) (relabelled_list (rest ss) (map operand_shape list))))
              (found_operand (first ss) value x.0) ∙ ap (λ w. within value w) y.0,
          y.1,
        )
    resolved_fits (begins name front) ss leaves h =
        let x = first_fits ss (Name name) (front ∷ leaves) h in
        let y = first_fits (rest ss) front leaves x.1 in (
          ap (λ w. begins (unwrap_or w []) (operand_of text names values (placed_at (first (rest ss))
              (operand_shape front)))) x.0 ∙ ap (λ w. begins name w) (found_operand (first (rest ss)) front y.0),
          y.1,
        )
    resolved_fits (exists name) ss leaves h =
        let x = first_fits ss (Name name) leaves h in (ap (λ w. exists (unwrap_or w [])) x.0, x.1)
    resolved_fits (lacks name) ss leaves h =
        let x = first_fits ss (Name name) leaves h in (ap (λ w. lacks (unwrap_or w [])) x.0, x.1)
    resolved_fits (not c) ss leaves h = let x = resolved_fits c ss leaves h in (ap not x.0, x.1)
    resolved_fits (and cs) ss leaves h = let x = all_fit cs ss leaves h in (ap and x.0, x.1)
    resolved_fits (or cs) ss leaves h = let x = all_fit cs ss leaves h in (ap or x.0, x.1)

    all_fit : (cs : Conditions) (ss : List Span) (leaves : List Operand) → Fits ss (all_leaves cs ++ leaves) →
        (all_resolved text names values (all_relabelled ss (all_shapes cs)) ≡ cs) ×
        Fits (after_all ss (all_shapes cs)) leaves
    all_fit none ss leaves h = (refl, h)
    all_fit (some c cs) ss leaves h =
        let x =
        resolved_fits c ss (all_leaves cs ++ leaves) (subst (Fits ss) (append_assoc (leaves_of c) (all_leaves cs)
        leaves) h) in
        let y = all_fit cs (after ss (shape_of c)) leaves x.1 in (
          ap (λ w. some w (all_resolved text names values (all_relabelled (after ss (shape_of c)) (all_shapes cs))))
              x.0 ∙ ap (λ w. some c w) y.0,
          y.1,
        )
