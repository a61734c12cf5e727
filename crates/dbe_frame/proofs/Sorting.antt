-- A stable sort gives a list in its order.
use Rattle.std.proofs.Common.{◌≡◌, ℕ, suc, ◌+◌, ◌<◌, Bool, true, false, ◌&&◌, cond, List, [], ◌∷◌, length, get_or}
use Rattle.std.proofs.Common.{refl, sym, ap, subst, ◌∙◌, arith}
use Rattle.std.specs.Prelude.{filter, not}
use Rattle.std.specs.List.{AllByRecursion}
use Rattle.std.specs.List.Sorted.{IsPermutation, IsSortedBy, IsStableBy, ties}
use Rattle.std.specs.Cmp.{IsStrictWeakOrder}
use Rattle.std.proofs.lemmas.List.Elements.{All-from_get_or, recursion_from_All}
use Rattle.std.proofs.lemmas.List.Sorted.{IsPermutation-refl, IsPermutation-trans, IsPermutation-cons}
use Rattle.std.proofs.lemmas.List.Sorted.{IsPermutation-middle, sorted_far}
use Rattle.dbe_frame.specs.Sorted.{insert_by, in_order}

pub weaken : {X : Type 0} (P Q : X → Type 0) → ((x : X) → P x → Q x) → (xs : List X) → AllByRecursion P xs →
    AllByRecursion Q xs
weaken P Q f [] h = tt
weaken P Q f (x ∷ xs) h = (f x h.0, weaken P Q f xs h.1)

-- no element is below one before it
abbrev pub Ascends : {X : Type 0} → (X → X → Bool) → List X → Type 0
Ascends lt [] = Unit {0}
Ascends lt (x ∷ xs) = AllByRecursion (λ y. lt y x ≡ false) xs × Ascends lt xs

-- what passes a test, at the head
abbrev kept : {X : Type 0} → Bool → X → List X → List X
kept b x xs = cond b (x ∷ xs) xs

exchange : {X : Type 0} (a b : Bool) (x y : X) (zs : List X) → (a ≡ true → b ≡ true → ⊥) →
    kept b y (kept a x zs) ≡ kept a x (kept b y zs)
exchange true true x y zs not_both = absurd (not_both refl refl)
exchange true false x y zs not_both = refl
exchange false true x y zs not_both = refl
exchange false false x y zs not_both = refl

first_same : {X : Type 0} (a b : Bool) (x y : X) (xs ys : List X) → a ≡ true → b ≡ true → kept a x xs ≡ kept b y ys →
    x ≡ y
first_same true true x y xs ys p q e = cc
first_same true false x y xs ys p q e = absurd cc
first_same false b x y xs ys p q e = absurd cc

rest_same : {X : Type 0} (b : Bool) (x : X) (xs ys : List X) → kept b x xs ≡ kept b x ys → xs ≡ ys
rest_same true x xs ys e = cc
rest_same false x xs ys e = e

none_kept : {X : Type 0} (b : Bool) (x : X) (xs : List X) → b ≡ true → [] ≡ kept b x xs → ⊥
none_kept true x xs p e = absurd cc
none_kept false x xs p e = absurd cc

kept_holds : {X : Type 0} (P : X → Type 0) (b : Bool) (x : X) (xs : List X) → P x → AllByRecursion P xs →
    AllByRecursion P (kept b x xs)
kept_holds P true x xs p h = (p, h)
kept_holds P false x xs p h = h

all_kept : {X : Type 0} (P : X → Type 0) (test : X → Bool) (xs : List X) → AllByRecursion P xs →
    AllByRecursion P (filter test xs)
all_kept P test [] h = tt
all_kept P test (x ∷ xs) h = kept_holds P (test x) x (filter test xs) h.0 (all_kept P test xs h.1)

first_holds : {X : Type 0} (P : X → Type 0) (a b : Bool) (x y : X) (xs ys : List X) → a ≡ true → b ≡ false →
    kept a x xs ≡ kept b y ys → AllByRecursion P ys → P x
first_holds P true true x y xs ys p q e h = absurd cc
first_holds P true false x y xs ys p q e h = (subst (λ zs. AllByRecursion P zs) (sym e) h).0
first_holds P false b x y xs ys p q e h = absurd cc

both_not : (a b : Bool) → not a && not b ≡ true → (a ≡ false) × (b ≡ false)
both_not true b e = absurd cc
both_not false true e = absurd cc
both_not false false e = (refl, refl)

not_both : (a b : Bool) → a ≡ false → b ≡ false → not a && not b ≡ true
not_both a b p q = rw (p, q) refl

turned : (a b : Bool) → not a && not b ≡ not b && not a
turned true true = refl
turned true false = refl
turned false true = refl
turned false false = refl

true_not : (b : Bool) → b ≡ true → b ≡ false → ⊥
true_not b e f = cc

module _ {X : Type 0} (lt : X → X → Bool) (weak : IsStrictWeakOrder lt) where
  not_below_itself : (x : X) (b : Bool) → lt x x ≡ b → lt x x ≡ false
  not_below_itself x true e = weak.one_way x x e
  not_below_itself x false e = e

  tied : (x : X) → ties lt x x ≡ true
  tied x = let e = not_below_itself x (lt x x) refl in not_both (lt x x) (lt x x) e e

  -- ---- insertion

  insert_all_step : (P : X → Type 0) (x y : X) (ys : List X) (b : Bool) → P x → P y → AllByRecursion P ys →
      AllByRecursion P (insert_by lt x ys) → AllByRecursion P (cond b (y ∷ insert_by lt x ys) (x ∷ y ∷ ys))
  insert_all_step P x y ys true p q h r = (q, r)
  insert_all_step P x y ys false p q h r = (p, (q, h))

  insert_all : (P : X → Type 0) (x : X) (ys : List X) → P x → AllByRecursion P ys → AllByRecursion P (insert_by lt x ys)
  insert_all P x [] p h = (p, tt)
  insert_all P x (y ∷ ys) p h = insert_all_step P x y ys (lt y x) p h.0 h.1 (insert_all P x ys p h.1)

  insert_ascends_step : (x y : X) (ys : List X) (b : Bool) → lt y x ≡ b → Ascends lt (y ∷ ys) →
      Ascends lt (insert_by lt x ys) → Ascends lt (cond b (y ∷ insert_by lt x ys) (x ∷ y ∷ ys))
  insert_ascends_step x y ys true e h r = (insert_all (λ z. lt z y ≡ false) x ys (weak.one_way y x e) h.0, r)
  insert_ascends_step x y ys false e h r =
      ((e, weaken (λ z. lt z y ≡ false) (λ z. lt z x ≡ false) (λ z f. weak.chain z y x f e) ys h.0), h)

  insert_ascends : (x : X) (ys : List X) → Ascends lt ys → Ascends lt (insert_by lt x ys)
  insert_ascends x [] h = (tt, tt)
  insert_ascends x (y ∷ ys) h = insert_ascends_step x y ys (lt y x) refl h (insert_ascends x ys h.1)

  pub order_ascends : (xs : List X) → Ascends lt (in_order lt xs)
  unfolding in_order
  order_ascends [] = tt
  order_ascends (x ∷ xs) = insert_ascends x (in_order lt xs) (order_ascends xs)

  -- ---- what ties keeps its order

  apart : (z x y : X) → lt y x ≡ true → ties lt z x ≡ true → ties lt z y ≡ true → ⊥
  apart z x y below p q = true_not (lt y x) below (weak.chain y z x (both_not (lt z y) (lt y z) q).1
      (both_not (lt z x) (lt x z) p).0)

  insert_stable_step : (z x y : X) (ys : List X) (b : Bool) → lt y x ≡ b →
      filter (ties lt z) (insert_by lt x ys) ≡ filter (ties lt z) (x ∷ ys)
      → filter (ties lt z) (cond b (y ∷ insert_by lt x ys) (x ∷ y ∷ ys)) ≡ filter (ties lt z) (x ∷ y ∷ ys)
  insert_stable_step z x y ys true e r =
      ap (λ zs. kept (ties lt z y) y zs) r ∙ exchange (ties lt z x) (ties lt z y) x y (filter (ties lt z) ys)
      (λ p q. apart z x y e p q)
  insert_stable_step z x y ys false e r = refl

  insert_stable : (z x : X) (ys : List X) → filter (ties lt z) (insert_by lt x ys) ≡ filter (ties lt z) (x ∷ ys)
  insert_stable z x [] = refl
  insert_stable z x (y ∷ ys) = insert_stable_step z x y ys (lt y x) refl (insert_stable z x ys)

  order_stable : (z : X) (xs : List X) → filter (ties lt z) (in_order lt xs) ≡ filter (ties lt z) xs
  unfolding in_order
  order_stable z [] = refl
  order_stable z (x ∷ xs) = insert_stable z x (in_order lt xs) ∙ ap (λ zs. kept (ties lt z x) x zs) (order_stable z xs)

  -- ---- two lists in order with the same elements at each rank are one

  head_by : (x y : X) (xs ys : List X) (b : Bool) → ties lt x y ≡ b → AllByRecursion (λ z. lt z x ≡ false) xs →
      AllByRecursion (λ z. lt z y ≡ false) ys
      → ((z : X) → filter (ties lt z) (x ∷ xs) ≡ filter (ties lt z) (y ∷ ys)) → x ≡ y
  head_by x y xs ys true e f g same = first_same (ties lt x x) (ties lt x y) x y (filter (ties lt x) xs)
      (filter (ties lt x) ys) (tied x) e (same x)
  head_by x y xs ys false e f g same =
      let low : lt x y ≡ false = first_holds (λ z. lt z y ≡ false) (ties lt x x) (ties lt x y) x y
      (filter (ties lt x) xs) (filter (ties lt x) ys) (tied x) e (same x) (all_kept (λ z. lt z y ≡ false)
      (ties lt x) ys g) in
      let other : ties lt y x ≡ false = turned (lt y x) (lt x y) ∙ e in
      let high : lt y x ≡ false = first_holds (λ z. lt z x ≡ false) (ties lt y y) (ties lt y x) y x
      (filter (ties lt y) ys) (filter (ties lt y) xs) (tied y) other (sym (same y))
      (all_kept (λ z. lt z x ≡ false) (ties lt y) xs f) in
      absurd (true_not (ties lt x y) (not_both (lt x y) (lt y x) low high) e)

  unique : (xs ys : List X) → Ascends lt xs → Ascends lt ys →
      ((z : X) → filter (ties lt z) xs ≡ filter (ties lt z) ys) → xs ≡ ys
  unique [] [] f g same = refl
  unique [] (y ∷ ys) f g same = absurd (none_kept (ties lt y y) y (filter (ties lt y) ys) (tied y) (same y))
  unique (x ∷ xs) [] f g same = absurd (none_kept (ties lt x x) x (filter (ties lt x) xs) (tied x) (sym (same x)))
  unique (x ∷ xs) (y ∷ ys) f g same =
      let e : x ≡ y = head_by x y xs ys (ties lt x y) refl f.0 g.0 same in
      let rest : xs ≡ ys = unique xs ys f.1 g.1 (λ z. rest_same (ties lt z x) x (filter (ties lt z) xs)
      (filter (ties lt z) ys) (same z ∙ ap (λ w. filter (ties lt z) (w ∷ ys)) (sym e))) in
      ap (λ z. z ∷ xs) e ∙ ap (λ zs. y ∷ zs) rest

  -- ---- what a sort gives

  sorted_rest : (x : X) (xs : List X) → IsSortedBy lt (x ∷ xs) → IsSortedBy lt xs
  sorted_rest x xs h = λ k d low within.
      let e : suc k + 1 ≡ suc (k + 1) = omega arith in
      let inside : suc k + 1 < suc (length xs) = omega arith in
      subst (λ (n : ℕ). lt (get_or (x ∷ xs) n d) (get_or xs k d) ≡ false) e (h (suc k) d (omega arith) inside)

  none_below : (x : X) (xs : List X) → IsSortedBy lt (x ∷ xs) → AllByRecursion (λ y. lt y x ≡ false) xs
  none_below x xs h =
      let far = sorted_far lt weak (x ∷ xs) h in
      recursion_from_All (λ y. lt y x ≡ false) xs (All-from_get_or (λ y. lt y x ≡ false) xs x
      (λ i within. far 0 (suc i) x (omega arith) (omega arith)))

  ascends : (xs : List X) → IsSortedBy lt xs → Ascends lt xs
  ascends [] h = tt
  ascends (x ∷ xs) h = (none_below x xs h, ascends xs (sorted_rest x xs h))

  pub sorted_is : (xs ys : List X) → IsSortedBy lt ys → IsStableBy lt xs ys → ys ≡ in_order lt xs
  sorted_is xs ys sorted stable = unique ys (in_order lt xs) (ascends ys sorted) (order_ascends xs) (λ z. stable z ∙
      sym (order_stable z xs))

-- ---- the same elements

module _ {X : Type 0} (lt : X → X → Bool) where
  insert_step : (x y : X) (ys : List X) (b : Bool) → IsPermutation (x ∷ ys) (insert_by lt x ys) →
      IsPermutation (x ∷ y ∷ ys) (cond b (y ∷ insert_by lt x ys) (x ∷ y ∷ ys))
  insert_step x y ys true p = IsPermutation-trans (x ∷ y ∷ ys) (y ∷ x ∷ ys) (y ∷ insert_by lt x ys)
      (IsPermutation-middle (x ∷ []) y ys) (IsPermutation-cons y (x ∷ ys) (insert_by lt x ys) p)
  insert_step x y ys false p = IsPermutation-refl (x ∷ y ∷ ys)

  insert_permutes : (x : X) (ys : List X) → IsPermutation (x ∷ ys) (insert_by lt x ys)
  insert_permutes x [] = IsPermutation-refl (x ∷ [])
  insert_permutes x (y ∷ ys) = insert_step x y ys (lt y x) (insert_permutes x ys)

  pub order_permutes : (xs : List X) → IsPermutation xs (in_order lt xs)
  unfolding in_order
  order_permutes [] = IsPermutation-refl []
  order_permutes (x ∷ xs) = IsPermutation-trans (x ∷ xs) (x ∷ in_order lt xs) (insert_by lt x (in_order lt xs))
      (IsPermutation-cons x xs (in_order lt xs) (order_permutes xs)) (insert_permutes x (in_order lt xs))
