-- An element placed among others that rise.
use Rattle.std.proofs.Common.{◌≡◌, ℕ, zero, suc, ◌+◌, ◌-◌, ◌<◌, ◌≤◌, List, [], ◌∷◌, length, get_or, Some, option_map}
use Rattle.std.proofs.Common.{insert, Ordering, Less, Equal, Greater, nat_cmp, refl, sym, ap, ◌∙◌, subst, arith, ◌⊎◌}
use Rattle.std.proofs.Common.{inl, inr}
use Rattle.std.specs.Cmp.Lexicographic.{slice_cmp}
use Rattle.std.specs.Ordering.{ordering_reverse}
use Rattle.std.specs.List.{All}
use Rattle.std.proofs.lemmas.Cmp.{nat_list_cmp_total}
use Rattle.std.proofs.lemmas.List.{get_or_read}
use Rattle.std.proofs.lemmas.List.Edits.{length-insert, get_or-insert_below, get_or-insert_at, get_or-insert_above}
use Rattle.dbe_values.specs.Sets.{placed, IsIncreasing, IsGap}

abbrev pub order : List ℕ → List ℕ → Ordering
order x y = slice_cmp nat_cmp x y

pub turned : (x y : List ℕ) (o : Ordering) → order x y ≡ o → order y x ≡ ordering_reverse o
turned x y o e = nat_list_cmp_total.antisymm y x ∙ ap ordering_reverse e

module _ (xs : List (List ℕ)) (x : List ℕ) (rising : IsIncreasing xs) (m : ℕ) (within : m < length xs) where
  pub below_step : order x (get_or xs m []) ≡ Greater → (k : ℕ) → k < m + 1 → order x (get_or xs k []) ≡ Greater
  below_step e k lt =
      elim (last k lt) [
        | inl le ↦ turned (get_or xs k []) x Less (nat_list_cmp_total.trans (get_or xs k [])
            (get_or xs m []) x (rising k m le within) (turned x (get_or xs m []) Greater e))
        | inr same ↦ rw same e
      ]
    where
      last : (k : ℕ) → k < m + 1 → (k < m) ⊎ (k ≡ m)
      last k lt = grind arith

  pub above_step : order x (get_or xs m []) ≡ Less → (k : ℕ) → m ≤ k → k < length xs → order x (get_or xs k []) ≡ Less
  above_step e k le lt = elim (first k le) [
    | inl more ↦ nat_list_cmp_total.trans x (get_or xs m []) (get_or xs k []) e
        (rising m k more lt)
    | inr same ↦ rw same e
  ]
    where
      first : (k : ℕ) → m ≤ k → (m < k) ⊎ (k ≡ m)
      first k le = grind arith

  pub below_same : order x (get_or xs m []) ≡ Equal → (k : ℕ) → k < m → order x (get_or xs k []) ≡ Greater
  below_same e k lt = nat_list_cmp_total.congr x (get_or xs m []) (get_or xs k []) e ∙
      turned (get_or xs k []) (get_or xs m []) Less (rising k m lt within)

pub placed_at : (xs : List (List ℕ)) (x : List ℕ) (i : ℕ) → i ≤ length xs → IsGap xs x i →
    placed x xs ≡ Some (insert xs i x)
placed_at [] x zero h gap = refl
placed_at [] x (suc i) h gap = absurd (omega arith)
placed_at (y ∷ ys) x zero h gap = rw (gap.above 0 (omega arith) (omega arith))
placed_at (y ∷ ys) x (suc i) h gap =
    rw (gap.below 0 (omega arith)) (ap (option_map (λ zs. y ∷ zs)) (placed_at ys x i (omega arith) (record {
      within =
          omega arith;
      below = λ k lt. gap.below (suc k) (omega arith);
      above =
          λ k le lt. gap.above (suc k) (omega arith) (omega arith);
    })))

three_ways : (a b : ℕ) → (a < b) ⊎ ((b < a) ⊎ (a ≡ b))
three_ways a b = grind arith

module _ (xs : List (List ℕ)) (x : List ℕ) (i : ℕ) (within : i ≤ length xs) (rising : IsIncreasing xs)
    (gap : IsGap xs x i) where
  at_place : (k : ℕ) → List ℕ
  at_place k = get_or (insert xs i x) k []

  is_below : (k : ℕ) → k < i → get_or (insert xs i x) k [] ≡ get_or xs k []
  is_below k lt = get_or-insert_below xs i x [] k lt within

  is_at : (k : ℕ) → k ≡ i → get_or (insert xs i x) k [] ≡ x
  is_at k e = rw e (get_or-insert_at xs i x [] within)

  is_above : (k : ℕ) → i < k → get_or (insert xs i x) k [] ≡ get_or xs (k - 1) []
  is_above k lt = subst (λ q. get_or (insert xs i x) q [] ≡ get_or xs (k - 1) []) {x = k - 1 + 1} (omega arith)
      (get_or-insert_above xs i x [] (k - 1) (omega arith) within)

  pub increasing_insert : IsIncreasing (insert xs i x)
  increasing_insert a b lt h =
      let long : length (insert xs i x) ≡ length xs + 1 = length-insert xs i x within in
      elim (three_ways a i) [
        | inl low ↦
            elim (three_ways b i) [
              | inl low' ↦ rw (is_below a low, is_below b low') (rising a b lt (omega arith))
              | inr r ↦
                  elim r [
                    | inl up' ↦ rw (is_below a low, is_above b up') (rising a (b - 1) (omega arith) (omega arith))
                    | inr e' ↦ rw (is_below a low, is_at b e') (turned x (get_or xs a []) Greater (gap.below a low))
                  ]
            ]
        | inr r ↦
            elim r [
              | inl up ↦ rw (is_above a up, is_above b (omega arith)) (rising (a - 1) (b - 1) (omega arith)
                  (omega arith))
              | inr e ↦ rw (is_at a e, is_above b (omega arith)) (gap.above (b - 1) (omega arith) (omega arith))
            ]
      ]

-- what a comparison with an element that was read says of the element at its place
pub read_at : (xs : List (List ℕ)) (x : List ℕ) (m : ℕ) (r s : List ℕ) (o : Ordering) → m < length xs →
    r ≡ get_or xs m r → s ≡ r → o ≡ order x s → order x (get_or xs m []) ≡ o
read_at xs x m r s o lt is same e = rw (← get_or_read xs m r lt is []) (rw same at (sym e))

pub increasing_cons : (x : List ℕ) (xs : List (List ℕ)) → All (λ y. order x y ≡ Less) xs → IsIncreasing xs →
    IsIncreasing (x ∷ xs)
increasing_cons x xs before rise zero zero lt h = absurd (omega arith)
increasing_cons x xs before rise zero (suc j) lt h = before j [] (omega arith)
increasing_cons x xs before rise (suc i) zero lt h = absurd (omega arith)
increasing_cons x xs before rise (suc i) (suc j) lt h = rise i j (omega arith) (omega arith)
