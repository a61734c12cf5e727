-- The beacon attributes of a sealed row are those that were put.
use Rattle.std.proofs.Common.{◌≡◌, ℕ, suc, Bool, true, false, cond, List, [], ◌∷◌, ◌++◌, filter, refl}
use Rattle.std.proofs.Common.{sym, ap, ◌∙◌, subst, Ordering, Less, Equal, Greater, append-nil, append_assoc, arith}
use Rattle.std.specs.List.{All, AllByRecursion}
use Rattle.std.specs.Ordering.{match_ordering}
use Rattle.std.proofs.lemmas.Cmp.{nat_list_cmp_total}
use Rattle.std.proofs.lemmas.List.Elements.{All-from_get_or, recursion_from_All}
use Rattle.std.proofs.lemmas.List.{get_or-map, length-map}
use Rattle.dbe_values.specs.Attributes.{put_at}
use Rattle.dbe_values.specs.Sets.{IsIncreasing}
use Rattle.dbe_values.specs.Lawful.{names_of}
use Rattle.dbe_values.specs.declared.value.AttrValue.{AttrValue}
use Rattle.dbe_values.proofs.Placing.{order, turned}
use Rattle.dbe_values.proofs.Lookups.{same_name}
use Rattle.dbe_frame.proofs.Sorting.{weaken}
use Rattle.dbe_item.specs.Sealed.{put_all}
use Rattle.dbe_item.proofs.SealsPut.{Attribute}

abbrev pub Above : List ℕ → List Attribute → Type 0
Above x row = AllByRecursion (λ (a : Attribute). order x a.0 ≡ Less) row

-- each name is below those after it
abbrev pub Rises : List Attribute → Type 0
Rises [] = Unit {0}
Rises (a ∷ others) = Above a.0 others × Rises others

pub rises_from : (row : List Attribute) → IsIncreasing (names_of row) → Rises row
rises_from [] h = tt
rises_from (a ∷ others) h =
    let above : All (λ (b : Attribute). order a.0 b.0 ≡ Less) others =
    All-from_get_or (λ (b : Attribute). order a.0 b.0 ≡ Less) others a (λ i lt.
    let long = length-map others (λ (b : Attribute). b.0) in
    subst (λ y. order a.0 y ≡ Less) (get_or-map (λ (b : Attribute). b.0) others i a [] lt)
    (h 0 (suc i) (omega arith) (omega (arith, long)))) in (
      recursion_from_All (λ (b : Attribute). order a.0 b.0 ≡ Less) others above,
      rises_from others (λ i j below within. h (suc i) (suc j) (omega arith) (omega arith)),
    )

less_greater : (o : Ordering) → o ≡ Less → o ≡ Greater → ⊥
less_greater o e f = absurd cc

equal_greater : (o : Ordering) → o ≡ Equal → o ≡ Greater → ⊥
equal_greater o e f = absurd cc

module _ (n : List ℕ) (v : AttrValue) where
  all_step : (P : Attribute → Type 0) (a : Attribute) (others put : List Attribute) (o : Ordering) → P (n, v) →
      AllByRecursion P (a ∷ others) → AllByRecursion P put →
      AllByRecursion P (match_ordering o ((n, v) ∷ a ∷ others) ((n, v) ∷ others) (a ∷ put))
  all_step P a others put Less p h r = (p, h)
  all_step P a others put Equal p h r = (p, h.1)
  all_step P a others put Greater p h r = (h.0, r)

  pub all_put : (P : Attribute → Type 0) (row : List Attribute) → P (n, v) → AllByRecursion P row →
      AllByRecursion P (put_at n v row)
  all_put P [] p h = (p, tt)
  all_put P (a ∷ others) p h = all_step P a others (put_at n v others) (order n a.0) p h (all_put P others p h.1)

  rises_step : (a : Attribute) (others : List Attribute) (o : Ordering) → order n a.0 ≡ o → Rises (a ∷ others) →
      Rises (put_at n v others) →
      Rises (match_ordering o ((n, v) ∷ a ∷ others) ((n, v) ∷ others) (a ∷ put_at n v others))
  rises_step a others Less e h r = (
    (
      e,
      weaken (λ (b : Attribute). order a.0 b.0 ≡ Less) (λ (b : Attribute). order n b.0 ≡ Less)
          (λ b lt. nat_list_cmp_total.trans n a.0 b.0 e lt) others h.0,
    ),
    h,
  )
  rises_step a others Equal e h r = (subst (λ y. Above y others) (same_name n a.0 e) h.0, h.1)
  rises_step a others Greater e h r =
      (all_put (λ (b : Attribute). order a.0 b.0 ≡ Less) others (turned n a.0 Greater e) h.0, r)

  pub rises_put : (row : List Attribute) → Rises row → Rises (put_at n v row)
  rises_put [] h = (tt, tt)
  rises_put (a ∷ others) h = rises_step a others (order n a.0) refl h (rises_put others h.1)

module _ (test : List ℕ → Bool) where
  abbrev kept : List Attribute → List Attribute
  kept row = filter (λ (a : Attribute). test a.0) row

  -- each attribute that passes is below the name
  abbrev Below : List ℕ → List Attribute → Type 0
  Below n row = AllByRecursion (λ (a : Attribute). test a.0 ≡ true → order n a.0 ≡ Greater) row

  none_step : (n : List ℕ) (a : Attribute) (xs : List Attribute) (b : Bool) → test a.0 ≡ b → order n a.0 ≡ Less →
      (test a.0 ≡ true → order n a.0 ≡ Greater) → xs ≡ [] → cond b (a ∷ xs) xs ≡ []
  none_step n a xs true e up low is = absurd (less_greater (order n a.0) up (low e))
  none_step n a xs false e up low is = is

  none_kept : (n : List ℕ) (row : List Attribute) → Above n row → Below n row → kept row ≡ []
  none_kept n [] up low = refl
  none_kept n (a ∷ others) up low =
      none_step n a (kept others) (test a.0) refl up.0 low.0 (none_kept n others up.1 low.1)

  append_step : (b : Bool) (a x : Attribute) (xs ys : List Attribute) → xs ≡ ys ++ x ∷ [] →
      cond b (a ∷ xs) xs ≡ cond b (a ∷ ys) ys ++ x ∷ []
  append_step true a x xs ys e = ap (λ zs. a ∷ zs) e
  append_step false a x xs ys e = e

  kept_step : (n : List ℕ) (v : AttrValue) (a : Attribute) (others put : List Attribute) (o : Ordering) →
      order n a.0 ≡ o → test n ≡ true → Rises (a ∷ others) → Below n (a ∷ others) →
      kept put ≡ kept others ++ (n, v) ∷ [] →
      kept (match_ordering o ((n, v) ∷ a ∷ others) ((n, v) ∷ others) (a ∷ put)) ≡ kept (a ∷ others) ++ (n, v) ∷ []
  kept_step n v a others put Less e passes up low h =
      let above : Above n (a ∷ others) = (rises_step n v a others Less e up (rises_put n v others up.1)).0 in
      let none : kept (a ∷ others) ≡ [] = none_kept n (a ∷ others) above low in
      ap (λ (xs : List Attribute). cond (test n) ((n, v) ∷ xs) xs) none
      ∙ ap (λ (b : Bool). cond b ((n, v) ∷ []) []) passes
      ∙ ap (λ (xs : List Attribute). xs ++ (n, v) ∷ []) (sym none)
  kept_step n v a others put Equal e passes up low h =
      absurd (equal_greater (order n a.0) e (low.0 (ap test (same_name n a.0 e) ∙ passes)))
  kept_step n v a others put Greater e passes up low h =
      append_step (test a.0) a (n, v) (kept put) (kept others) h

  kept_more : (n : List ℕ) (v : AttrValue) (row : List Attribute) → test n ≡ true → Rises row → Below n row →
      kept (put_at n v row) ≡ kept row ++ (n, v) ∷ []
  kept_more n v [] passes up low = rw passes
  kept_more n v (a ∷ others) passes up low =
      kept_step n v a others (put_at n v others) (order n a.0) refl passes up low
      (kept_more n v others passes up.1 low.1)

  below_more : (a : Attribute) (others row : List Attribute) → Above a.0 others →
      AllByRecursion (λ (b : Attribute). Below b.0 row) others →
      AllByRecursion (λ (b : Attribute). Below b.0 (put_at a.0 a.1 row)) others
  below_more a [] row up low = tt
  below_more a (b ∷ others) row up low = (
    all_put a.0 a.1 (λ (x : Attribute). test x.0 ≡ true → order b.0 x.0 ≡ Greater) row
        (λ passes. turned a.0 b.0 Less up.0) low.0,
    below_more a others row up.1 low.1,
  )

  kept_all : (beacons row : List Attribute) → Rises row → Rises beacons →
      AllByRecursion (λ (a : Attribute). test a.0 ≡ true) beacons →
      AllByRecursion (λ (b : Attribute). Below b.0 row) beacons → kept (put_all beacons row) ≡ kept row ++ beacons
  kept_all [] row up rise pass low = sym (append-nil (kept row))
  kept_all (a ∷ others) row up rise pass low =
      kept_all others (put_at a.0 a.1 row) (rises_put a.0 a.1 row up) rise.1 pass.1
      (below_more a others row rise.0 low.1)
      ∙ ap (λ (xs : List Attribute). xs ++ others) (kept_more a.0 a.1 row pass.0 up low.0)
      ∙ append_assoc (kept row) (a ∷ []) others

  none_pass : (row : List Attribute) → AllByRecursion (λ (a : Attribute). test a.0 ≡ false) row → kept row ≡ []
  none_pass [] h = refl
  none_pass (a ∷ others) h = rw h.0 (none_pass others h.1)

  none_below : (n : List ℕ) (row : List Attribute) → AllByRecursion (λ (a : Attribute). test a.0 ≡ false) row →
      Below n row
  none_below n [] h = tt
  none_below n (a ∷ others) h =
      let fails : test a.0 ≡ false = h.0 in ((λ passes. absurd (apart (sym passes ∙ fails))), none_below n others h.1)
    where
      apart : true ≡ false → ⊥
      apart e = absurd cc

  all_below : (beacons row : List Attribute) → AllByRecursion (λ (a : Attribute). test a.0 ≡ false) row →
      AllByRecursion (λ (b : Attribute). Below b.0 row) beacons
  all_below [] row h = tt
  all_below (b ∷ beacons) row h = (none_below b.0 row h, all_below beacons row h)

  -- put among attributes that do not pass, those that pass are all that do
  pub kept_is : (beacons row : List Attribute) → Rises row → Rises beacons →
      AllByRecursion (λ (a : Attribute). test a.0 ≡ true) beacons →
      AllByRecursion (λ (a : Attribute). test a.0 ≡ false) row → kept (put_all beacons row) ≡ beacons
  kept_is beacons row up rise pass fail =
      kept_all beacons row up rise pass (all_below beacons row fail)
      ∙ ap (λ (xs : List Attribute). xs ++ beacons) (none_pass row fail)
