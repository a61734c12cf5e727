-- Entries in order of their placeholders.
use Rattle.std.proofs.Common.{◌≡◌, ◌≢◌, ℕ, zero, suc, ◌+◌, ◌-◌, ◌<◌, ◌≤◌, List, [], ◌∷◌, ◌++◌, length, get_or, Some}
use Rattle.std.proofs.Common.{None, Ordering, Less, Equal, Greater, refl, sym, ap, subst, ◌∙◌, arith, ◌⊎◌, inl, inr}
use Rattle.std.proofs.Common.{length-append}
use Rattle.std.specs.Str.{bytes_eq}
use Rattle.std.specs.Ordering.{is_eq, ordering_reverse}
use Rattle.std.specs.Map.{keys_of}
use Rattle.std.specs.List.{AllByRecursion}
use Rattle.std.proofs.Math.ListN.{get_or-map}
use Rattle.std.proofs.Math.Seq.{get_or-append_seam}
use Rattle.std.proofs.lemmas.Cmp.{nat_list_cmp_total}
use Rattle.std.proofs.lemmas.List.{get_or_append_left, length-map, map-append}
use Rattle.std.proofs.lemmas.Map.Text.{is_eq-slice_cmp}
use Rattle.std.proofs.lemmas.Bool.{cond-true, cond-false}
use Rattle.dbe_values.specs.Sets.{IsIncreasing}
use Rattle.dbe_values.proofs.Placing.{order}
use Rattle.dbe_cond.specs.Given.{given, IsBehind}

pub equal_at : (x p : List ℕ) (o : Ordering) → order p x ≡ o → bytes_eq x p ≡ is_eq (ordering_reverse o)
equal_at x p o e = sym (is_eq-slice_cmp x p) ∙ ap is_eq (nat_list_cmp_total.antisymm x p ∙ ap ordering_reverse e)

-- the key of an entry that was read
pub entry_key : {X : Type 0} (es : List (List ℕ × X)) (m : ℕ) (e : List ℕ × X) → e ≡ get_or es m e →
    e.0 ≡ get_or (keys_of es) m e.0
entry_key es m e is = ap (λ x. x.0) is ∙ sym (get_or-map (λ x. x.0) es m e)

pub length_keys : {X : Type 0} (es : List (List ℕ × X)) → length (keys_of es) ≡ length es
length_keys es = length-map es (λ e. e.0)

-- what a comparison with a key that was read says of the key at its place
pub read_key : {X : Type 0} (es : List (List ℕ × X)) (p : List ℕ) (m : ℕ) (d : List ℕ × X) (s : List ℕ) (o : Ordering)
    → m < length es → s ≡ (get_or es m d).0 → o ≡ order p s → order p (get_or (keys_of es) m []) ≡ o
read_key es p m d s o lt same e = ap (order p) (read es m d lt ∙ sym same) ∙ sym e
  where
    read : {X : Type 0} (es : List (List ℕ × X)) (m : ℕ) (d : List ℕ × X) → m < length es →
        get_or (keys_of es) m [] ≡ (get_or es m d).0
    read [] m d lt = absurd (omega arith)
    read (e ∷ es) zero d lt = refl
    read (e ∷ es) (suc m) d lt = read es m d (omega arith)

pub given_at : {X : Type 0} (es : List (List ℕ × X)) (p : List ℕ) (m : ℕ) (r : List ℕ × X) → m < length es →
    r ≡ get_or es m r → order p r.0 ≡ Equal → ((k : ℕ) → k < m → order p (get_or (keys_of es) k []) ≡ Greater) →
    given p es ≡ Some r.1
given_at [] p m r lt is same below = absurd (omega arith)
given_at (e ∷ es) p zero r lt is same below =
    cond-true (bytes_eq e.0 p) (Some e.1) (given p es) (equal_at e.0 p Equal (subst (λ x. order p x.0 ≡ Equal) is
    same)) ∙ ap (λ x. Some x.1) (sym is)
given_at (e ∷ es) p (suc m) r lt is same below =
    cond-false (bytes_eq e.0 p) (Some e.1) (given p es) (equal_at e.0 p Greater (below 0 (omega arith))) ∙
    given_at es p m r (omega arith) is same (λ k l. below (suc k) (omega arith))

pub given_none : {X : Type 0} (es : List (List ℕ × X)) (p : List ℕ) (i : ℕ) →
    ((k : ℕ) → k < i → order p (get_or (keys_of es) k []) ≡ Greater) → ((k : ℕ) → i ≤ k → k < length es →
    order p (get_or (keys_of es) k []) ≡ Less) → given p es ≡ None
given_none [] p i below above = refl
given_none (e ∷ es) p zero below above =
    cond-false (bytes_eq e.0 p) (Some e.1) (given p es) (equal_at e.0 p Less (above 0 (omega arith) (omega arith))) ∙
    given_none es p zero (λ k l. absurd (omega arith)) (λ k h l. above (suc k) (omega arith) (omega arith))
given_none (e ∷ es) p (suc i) below above =
    cond-false (bytes_eq e.0 p) (Some e.1) (given p es) (equal_at e.0 p Greater (below 0 (omega arith))) ∙
    given_none es p i (λ k l. below (suc k) (omega arith)) (λ k h l. above (suc k) (omega arith) (omega arith))

behind_at : (keys : List (List ℕ)) (p : List ℕ) → AllByRecursion (λ key. order key p ≡ Less) keys → (i : ℕ) →
    i < length keys → order (get_or keys i []) p ≡ Less
behind_at [] p h i lt = absurd (omega arith)
behind_at (k ∷ keys) p h zero lt = h.0
behind_at (k ∷ keys) p h (suc i) lt = behind_at keys p h.1 i (omega arith)

behind_from : (keys : List (List ℕ)) (p : List ℕ) → ((i : ℕ) → i < length keys → order (get_or keys i []) p ≡ Less) →
    AllByRecursion (λ key. order key p ≡ Less) keys
behind_from [] p h = tt
behind_from (k ∷ keys) p h = (h 0 (omega arith), behind_from keys p (λ i lt. h (suc i) (omega arith)))

-- below one more, or at it
last_or : (i n : ℕ) → i < n + 1 → (i < n) ⊎ (i ≡ n)
last_or i n lt = grind arith

-- a key behind the last is behind all
pub behind_last : {X : Type 0} (es : List (List ℕ × X)) (p : List ℕ) (e : List ℕ × X) (m : ℕ) →
    IsIncreasing (keys_of es) → length es ≡ m + 1 → e ≡ get_or es m e → order e.0 p ≡ Less → IsBehind p es
behind_last es p e m rising long is less =
    let long_keys : length (keys_of es) ≡ m + 1 = length_keys es ∙ long in
    let at_last : order (get_or (keys_of es) m []) p ≡ Less = last_read es m e p (omega arith) is less in
    behind_from (keys_of es) p (λ i lt. elim (last_or i m (omega arith)) [
      | inl low ↦ nat_list_cmp_total.trans (get_or (keys_of es) i []) (get_or (keys_of es) m []) p
          (rising i m low (omega arith)) at_last
      | inr at ↦ rw at at_last
    ])
  where
    last_read : {X : Type 0} (es : List (List ℕ × X)) (m : ℕ) (e : List ℕ × X) (p : List ℕ) → m < length es →
        e ≡ get_or es m e → order e.0 p ≡ Less → order (get_or (keys_of es) m []) p ≡ Less
    last_read [] m e p lt is less = absurd (omega arith)
    last_read (d ∷ es) zero e p lt is less = subst (λ x. order x.0 p ≡ Less) is less
    last_read (d ∷ es) (suc m) e p lt is less = last_read es m e p (omega arith) is less

pub last_behind : {X : Type 0} (es : List (List ℕ × X)) (p : List ℕ) (e : List ℕ × X) (m : ℕ) → length es ≡ m + 1 →
    e ≡ get_or es m e → IsBehind p es → order e.0 p ≡ Less
last_behind [] p e m long is behind = absurd (omega arith)
last_behind (d ∷ es) p e zero long is behind = subst (λ x. order x.0 p ≡ Less) (sym is) behind.0
last_behind (d ∷ es) p e (suc m) long is behind = last_behind es p e m (omega arith) is behind.1

increasing_last : (keys : List (List ℕ)) (p : List ℕ) → IsIncreasing keys →
    AllByRecursion (λ key. order key p ≡ Less) keys → IsIncreasing (keys ++ p ∷ [])
increasing_last keys p rising behind i j lt h =
    let low : i < length keys = omega (arith, length-append keys (p ∷ [])) in
    elim (last_or j (length keys) (omega (arith, length-append keys (p ∷ [])))) [
      | inl below ↦ rw (get_or_append_left keys (p ∷ []) [] i low, get_or_append_left keys (p ∷ []) [] j below)
          (rising i j lt below)
      | inr at ↦ rw (get_or_append_left keys (p ∷ []) [] i low, at, get_or-append_seam keys p [] [])
          (behind_at keys p behind i low)
    ]

pub increasing_push : {X : Type 0} (es seen new : List (List ℕ × X)) (p : List ℕ) (x : X) → es ≡ seen →
    IsIncreasing (keys_of es) → IsBehind p seen → new ≡ es ++ (p, x) ∷ [] → IsIncreasing (keys_of new)
increasing_push es seen new p x view rising behind pushed =
    subst IsIncreasing (sym (ap keys_of pushed ∙ map-append (λ e. e.0) es ((p, x) ∷ [])))
    (increasing_last (keys_of es) p rising (subst (IsBehind p) (sym view) behind))

pub one_more : (n : ℕ) → n ≢ 0 → n ≡ n - 1 + 1
one_more zero h = absurd (h refl)
one_more (suc n) h = omega arith

pub not_equal : (o : Ordering) → o ≡ Less → Equal ≡ o → ⊥
not_equal o h k = cc

pub not_greater : (o : Ordering) → o ≡ Less → Greater ≡ o → ⊥
not_greater o h k = cc
