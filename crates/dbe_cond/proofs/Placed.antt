-- Entries put at the place of their placeholder.
use Rattle.std.proofs.Common.{◌≡◌, ℕ, zero, suc, ◌<◌, List, [], ◌∷◌, length, get_or, set, insert, Some, None, Less}
use Rattle.std.proofs.Common.{Equal, Greater, refl, sym, ap, subst, ◌∙◌, arith}
use Rattle.std.specs.Cmp.{Equal-is}
use Rattle.std.specs.BTreeMap.{insert_entry}
use Rattle.std.specs.Map.{keys_of}
use Rattle.std.proofs.lemmas.List.{get_or_read}
use Rattle.std.proofs.lemmas.Map.Text.{is_eq-slice_cmp}
use Rattle.std.proofs.lemmas.Slice.Eq.{bytes_eq-Decides}
use Rattle.dbe_values.specs.Sets.{IsIncreasing, IsGap}
use Rattle.dbe_values.proofs.Placing.{order, turned, increasing_insert}
use Rattle.dbe_cond.specs.Given.{given}
use Rattle.dbe_cond.proofs.Entries.{entry_key, length_keys, given_at, given_none}

abbrev IsAt : {X : Type 0} → List (List ℕ × X) → List ℕ → ℕ → Type 0
IsAt es p i = (i < length (keys_of es)) × (get_or (keys_of es) i [] ≡ p)

same_order : (x : List ℕ) → order x x ≡ Equal
same_order x = (Equal-is (order x x)).0 (is_eq-slice_cmp x x ∙ (bytes_eq-Decides x x).1 refl)

-- what was read at the place of a placeholder has it as its key
key_there : {X : Type 0} (es : List (List ℕ × X)) (p : List ℕ) (i : ℕ) (r : List ℕ × X) → IsAt es p i →
    r ≡ get_or es i r → r.0 ≡ p
key_there es p i r there is = get_or_read (keys_of es) i r.0 there.0 (entry_key es i r is) [] ∙ there.1

pub given_there : {X : Type 0} (es : List (List ℕ × X)) (p : List ℕ) (i : ℕ) (r : List ℕ × X) →
    IsIncreasing (keys_of es) → IsAt es p i → r ≡ get_or es i r → given p es ≡ Some r.1
given_there es p i r rising there is =
    let long : i < length es = omega (arith, length_keys es, there.0) in
    let same : r.0 ≡ p = key_there es p i r there is in
    given_at es p i r long is (subst (λ x. order p x ≡ Equal) (sym same) (same_order p))
    (λ k lt. subst (λ x. order x (get_or (keys_of es) k []) ≡ Greater) there.1 (turned (get_or (keys_of es) k [])
    (get_or (keys_of es) i []) Less (rising k i lt there.0)))

pub given_gap : {X : Type 0} (es : List (List ℕ × X)) (p : List ℕ) (i : ℕ) → IsGap (keys_of es) p i → given p es ≡ None
given_gap es p i gap = given_none es p i gap.below (λ k le lt. gap.above k le (omega (arith, length_keys es)))

tail : (x : List ℕ) (xs : List (List ℕ)) → IsIncreasing (x ∷ xs) → IsIncreasing xs
tail x xs r i j lt h = r (suc i) (suc j) (omega arith) (omega arith)

-- the first key is below one that stands later
first_below : (x : List ℕ) (xs : List (List ℕ)) (i : ℕ) (p : List ℕ) → IsIncreasing (x ∷ xs) → i < length xs →
    get_or xs i [] ≡ p → order p x ≡ Greater
first_below x xs i p r lt is =
    turned x p Less (subst (λ y. order x y ≡ Less) is (r 0 (suc i) (omega arith) (omega arith)))

put_there : {X : Type 0} (es : List (List ℕ × X)) (p : List ℕ) (x : X) (i : ℕ) (q : List ℕ) →
    IsIncreasing (keys_of es) → IsAt es p i → q ≡ p → set es i (q, x) ≡ insert_entry order es p x
put_there [] p x i q r there same = absurd (omega (arith, there.0))
put_there (e ∷ es) p x zero q r there same =
    rw (there.1, same_order p) (ap (λ y. (y, x) ∷ es) same)
put_there (e ∷ es) p x (suc i) q r there same =
    rw (first_below e.0 (keys_of es) i p r (omega (arith, there.0)) there.1)
    (ap (λ y. e ∷ y) (put_there es p x i q (tail e.0 (keys_of es) r) (omega (arith, there.0), there.1) same))

put_gap : {X : Type 0} (es : List (List ℕ × X)) (p : List ℕ) (x : X) (i : ℕ) → IsGap (keys_of es) p i →
    insert es i (p, x) ≡ insert_entry order es p x
put_gap [] p x zero gap = refl
put_gap [] p x (suc i) gap = absurd (omega (arith, gap.within))
put_gap (e ∷ es) p x zero gap = rw (gap.above 0 (omega arith) (omega arith))
put_gap (e ∷ es) p x (suc i) gap =
    rw (gap.below 0 (omega arith)) (ap (λ y. e ∷ y) (put_gap es p x i (record {
      within = omega (arith, gap.within);
      below = λ k lt. gap.below (suc k) (omega arith);
      above =
          λ k le lt. gap.above (suc k) (omega arith) (omega arith);
    })))

keys-insert : {X : Type 0} (es : List (List ℕ × X)) (i : ℕ) (e : List ℕ × X) →
    keys_of (insert es i e) ≡ insert (keys_of es) i e.0
keys-insert [] zero e = refl
keys-insert [] (suc i) e = refl
keys-insert (d ∷ es) zero e = refl
keys-insert (d ∷ es) (suc i) e = ap (λ y. d.0 ∷ y) (keys-insert es i e)

keys-set : {X : Type 0} (es : List (List ℕ × X)) (i : ℕ) (q : List ℕ) (x : X) → get_or (keys_of es) i [] ≡ q →
    keys_of (set es i (q, x)) ≡ keys_of es
keys-set [] i q x same = refl
keys-set (e ∷ es) zero q x same = ap (λ y. y ∷ keys_of es) (sym same)
keys-set (e ∷ es) (suc i) q x same = ap (λ y. e.0 ∷ y) (keys-set es i q x same)

-- what was put where the search found the placeholder, or the place where it goes
module _ {X : Type 0} (es seen : List (List ℕ × X)) (p sought : List ℕ) (x : X) (i : ℕ)
    (rising : IsIncreasing (keys_of es)) (same : seen ≡ es) (named : sought ≡ p) where
  is_at : IsAt seen sought i → IsAt es p i
  is_at k = subst (λ y. IsAt es y i) named (subst (λ (y : List (List ℕ × X)). IsAt y sought i) same k)

  is_gap : IsGap (keys_of seen) sought i → IsGap (keys_of es) p i
  is_gap k = subst (λ y. IsGap (keys_of es) y i) named (subst (λ (y : List (List ℕ × X)). IsGap (keys_of y) sought i)
      same k)

  pub found_put : (r : List ℕ × X) → r ≡ get_or es i r → IsAt seen sought i →
      set es i (r.0, x) ≡ insert_entry order es p x
  found_put r is k = put_there es p x i r.0 rising (is_at k) (key_there es p i r (is_at k) is)

  pub found_increasing : (r : List ℕ × X) → r ≡ get_or es i r → IsAt seen sought i →
      IsIncreasing (keys_of (set es i (r.0, x)))
  found_increasing r is k =
      subst IsIncreasing (sym (keys-set es i r.0 x ((is_at k).1 ∙ sym (key_there es p i r (is_at k) is)))) rising

  pub missed_put : IsGap (keys_of seen) sought i → insert es i (p, x) ≡ insert_entry order es p x
  missed_put k = put_gap es p x i (is_gap k)

  pub missed_increasing : IsGap (keys_of seen) sought i → IsIncreasing (keys_of (insert es i (p, x)))
  missed_increasing k = subst IsIncreasing (sym (keys-insert es i (p, x))) (increasing_insert (keys_of es) p i
      (is_gap k).within rising (is_gap k))
