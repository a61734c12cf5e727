-- A list whose members are put at the placeholders of their places, one after another.
use Rattle.std.proofs.Common.{◌≡◌, ◌≢◌, ℕ, suc, ◌+◌, ◌<◌, ◌^◌, List, [], ◌∷◌, ◌++◌, length, fold, nat_cmp, true}
use Rattle.std.proofs.Common.{false, Some, None, Ordering, Less, Equal, Greater, bytes_eq, refl, sym, ap, subst, ◌∙◌}
use Rattle.std.proofs.Common.{arith, add-one, inl, inr}
use Rattle.std.specs.Fmt.{decimal}
use Rattle.std.specs.List.{enumerate_from}
use Rattle.std.specs.Cmp.Lexicographic.{slice_cmp}
use Rattle.std.specs.Ordering.{match_ordering}
use Rattle.std.specs.BTreeMap.{insert_entry}
use Rattle.std.proofs.lemmas.Fmt.{decimal_injective}
use Rattle.std.proofs.lemmas.Bool.{cond-true, cond-false, cases_Bool}
use Rattle.std.proofs.lemmas.Slice.Eq.{bytes_eq-Decides}
use Rattle.dbe_values.proofs.Placing.{order}
use Rattle.dbe_cond.specs.Given.{given}
use Rattle.dbe_cond.specs.Printed.{numbered}
use Rattle.dbe_cond.proofs.Entries.{equal_at}

-- the entries with more, from a number on
abbrev pub numbered_on : {X : Type 0} → List ℕ → ℕ → List X → List (List ℕ × X) → List (List ℕ × X)
numbered_on mark n found entries = fold (λ es e. insert_entry (slice_cmp nat_cmp) es (numbered mark e.0) e.1) entries
    (enumerate_from n found)

-- each of a list is given for its number, from a number on
abbrev pub GivesAll : {X : Type 0} → List ℕ → List (List ℕ × X) → ℕ → List X → Type 0
GivesAll mark entries n [] = Unit {0}
GivesAll mark entries n (x ∷ found) = (given (numbered mark n) entries ≡ Some x) × GivesAll mark entries (suc n) found

differs : (p q : List ℕ) → p ≢ q → bytes_eq p q ≡ false
differs p q ne = elim (cases_Bool (bytes_eq p q)) [ inl h ↦ absurd (ne ((bytes_eq-Decides p q).0 h)) | inr h ↦ h ]

is_same : (p q : List ℕ) → bytes_eq p q ≡ true → p ≡ q
is_same p q h = (bytes_eq-Decides p q).0 h

module _ {X : Type 0} (p : List ℕ) (x : X) where
  -- one entry and those behind it, by how the placeholder and the entry's compare
  put_step : (e : List ℕ × X) (es : List (List ℕ × X)) (o : Ordering) → order p e.0 ≡ o →
      insert_entry order (e ∷ es) p x ≡ match_ordering o ((p, x) ∷ e ∷ es) ((e.0, x) ∷ es) (e ∷ insert_entry order es
      p x)
  put_step e es o h = ap (λ y. match_ordering y ((p, x) ∷ e ∷ es) ((e.0, x) ∷ es) (e ∷ insert_entry order es p x)) h

  given_step : (e : List ℕ × X) (es : List (List ℕ × X)) (o : Ordering) → order p e.0 ≡ o →
      given p (insert_entry order es p x) ≡ Some x →
      given p (match_ordering o ((p, x) ∷ e ∷ es) ((e.0, x) ∷ es) (e ∷ insert_entry order es p x)) ≡ Some x
  given_step e es Less h k = cond-true (bytes_eq p p) (Some x) (given p (e ∷ es)) ((bytes_eq-Decides p p).1 refl)
  given_step e es Equal h k = cond-true (bytes_eq e.0 p) (Some x) (given p es) (equal_at e.0 p Equal h)
  given_step e es Greater h k = cond-false (bytes_eq e.0 p) (Some e.1) (given p (insert_entry order es p x))
      (equal_at e.0 p Greater h) ∙ k

  -- what is put is given
  given-put : (es : List (List ℕ × X)) → given p (insert_entry order es p x) ≡ Some x
  given-put [] = cond-true (bytes_eq p p) (Some x) None ((bytes_eq-Decides p p).1 refl)
  given-put (e ∷ es) = ap (given p) (put_step e es (order p e.0) refl) ∙
      given_step e es (order p e.0) refl (given-put es)

  module _ (q : List ℕ) (ne : p ≢ q) where
    other_step : (e : List ℕ × X) (es : List (List ℕ × X)) (o : Ordering) → order p e.0 ≡ o →
        given q (insert_entry order es p x) ≡ given q es →
        given q (match_ordering o ((p, x) ∷ e ∷ es) ((e.0, x) ∷ es) (e ∷ insert_entry order es p x)) ≡ given q (e ∷ es)
    other_step e es Less h k = cond-false (bytes_eq p q) (Some x) (given q (e ∷ es)) (differs p q ne)
    other_step e es Equal h k =
        let apart : bytes_eq e.0 q ≡ false = differs e.0 q (λ s. ne (sym (is_same e.0 p (equal_at e.0 p Equal h)) ∙
        s)) in
        cond-false (bytes_eq e.0 q) (Some x) (given q es) apart ∙
        sym (cond-false (bytes_eq e.0 q) (Some e.1) (given q es) apart)
    other_step e es Greater h k = ap (λ y. Rattle.std.proofs.Common.cond (bytes_eq e.0 q) (Some e.1) y) k

    given-put_other : (es : List (List ℕ × X)) → given q (insert_entry order es p x) ≡ given q es
    given-put_other [] = cond-false (bytes_eq p q) (Some x) None (differs p q ne)
    given-put_other (e ∷ es) = ap (given q) (put_step e es (order p e.0) refl) ∙
        other_step e es (order p e.0) refl (given-put_other es)

cancel : (mark a b : List ℕ) → mark ++ a ≡ mark ++ b → a ≡ b
cancel [] a b e = e
cancel (m ∷ mark) a b e = cancel mark a b (cc)

apart : (mark : List ℕ) (m n : ℕ) → n < m → m < 2 ^ 64 → numbered mark m ≢ numbered mark n
apart mark m n lt small e = let same : m ≡ n =
    decimal_injective m n small (omega arith) (cancel mark (decimal m) (decimal n) e) in absurd (omega arith)

module _ {X : Type 0} (mark : List ℕ) where
  -- what is put at later numbers changes nothing
  kept : (found : List X) (n k : ℕ) (es : List (List ℕ × X)) → k < n → n + length found < 2 ^ 64 →
      given (numbered mark k) (numbered_on mark n found es) ≡ given (numbered mark k) es
  kept [] n k es lt small = refl
  kept (x ∷ found) n k es lt small =
      kept found (n + 1) k (insert_entry order es (numbered mark n) x) (omega arith) (omega arith)
      ∙ given-put_other (numbered mark n) x (numbered mark k) (apart mark n k lt (omega arith)) es

  pub all_given : (found : List X) (n : ℕ) (es : List (List ℕ × X)) → n + length found < 2 ^ 64 →
      GivesAll mark (numbered_on mark n found es) n found
  all_given [] n es small = tt
  all_given (x ∷ found) n es small =
      let new = insert_entry order es (numbered mark n) x in (
        kept found (n + 1) n new (omega arith) (omega arith) ∙ given-put (numbered mark n) x es,
        subst (λ k. GivesAll mark (numbered_on mark (n + 1) found new) k found) (add-one n) (all_given found (n + 1)
            new (omega arith)),
      )
