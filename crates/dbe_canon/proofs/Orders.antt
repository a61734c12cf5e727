-- Neighbours in order, and all in order.
use Rattle.std.proofs.Common.{◌≡◌, ℕ, zero, suc, ◌+◌, ◌<◌, ◌≤◌, Bool, true, false, ◌&&◌, List, [], ◌∷◌, length, drop}
use Rattle.std.proofs.Common.{map, get_or, ◌-◌, refl, sym, ap, ◌∙◌, arith, rules, length-drop}
use Rattle.std.proofs.lemmas.List.{drop_more}
use Rattle.std.specs.Ordering.{nat_cmp, is_lt}
use Rattle.std.specs.declared.cmp.Ordering.{Ordering}
use Rattle.std.specs.declared.cmp.Ordering.TheVariants.{Less, Equal, Greater}
use Rattle.std.specs.Cmp.Lexicographic.{slice_cmp}
use Rattle.std.proofs.lemmas.Cmp.{nat_list_cmp_total}
use Rattle.std.specs.Prelude.{IsTrue, ◌↔◌}
use Rattle.dbe_values.specs.Sets.{IsSet, IsIncreasing}
use Rattle.dbe_canon.specs.Reading.{is_increasing}

pub both : (a b : Bool) → a && b ≡ true → (a ≡ true) × (b ≡ true)
both true b e = (refl, e)
both false b e = absurd cc

pub less : (o : Ordering) → is_lt o ≡ true → o ≡ Less
less Less e = refl
less Equal e = absurd cc
less Greater e = absurd cc

-- the first is below each other
first_below : (x : List ℕ) (ys : List (List ℕ)) (j : ℕ) → is_increasing (x ∷ ys) ≡ true → j < length ys →
    slice_cmp nat_cmp x (get_or ys j []) ≡ Less
first_below x [] j e lt = absurd (omega arith)
first_below x (y ∷ ys) zero e lt =
    less (slice_cmp nat_cmp x y) (both (is_lt (slice_cmp nat_cmp x y)) (is_increasing (y ∷ ys)) e).0
first_below x (y ∷ ys) (suc j) e lt =
    let b = both (is_lt (slice_cmp nat_cmp x y)) (is_increasing (y ∷ ys)) e in
    nat_list_cmp_total.trans x y (get_or ys j []) (less (slice_cmp nat_cmp x y) b.0)
    (first_below y ys j b.1 (omega arith))

others_rise : (x : List ℕ) (ys : List (List ℕ)) → is_increasing (x ∷ ys) ≡ true → is_increasing ys ≡ true
others_rise x [] e = refl
others_rise x (y ∷ ys) e = (both (is_lt (slice_cmp nat_cmp x y)) (is_increasing (y ∷ ys)) e).1

pub rises : (xs : List (List ℕ)) → is_increasing xs ≡ true → IsIncreasing xs
rises [] e i j below within = absurd (omega arith)
rises (x ∷ ys) e zero zero below within = absurd (omega arith)
rises (x ∷ ys) e zero (suc j) below within = first_below x ys j e (omega arith)
rises (x ∷ ys) e (suc i) zero below within = absurd (omega arith)
rises (x ∷ ys) e (suc i) (suc j) below within = rises ys (others_rise x ys e) i j (omega arith) (omega arith)

pub rises_again : (xs : List (List ℕ)) → IsIncreasing xs → is_increasing xs ≡ true
rises_again [] h = refl
rises_again (x ∷ []) h = refl
rises_again (x ∷ y ∷ ys) h =
    let first : slice_cmp nat_cmp x y ≡ Less = h 0 1 (omega arith) (omega arith) in
    let others : is_increasing (y ∷ ys) ≡ true =
    rises_again (y ∷ ys) (λ i j below within. h (suc i) (suc j) (omega arith) (omega arith)) in
    rw (first, others) refl

-- ---- a loop that compares neighbours

short_rises : (ys : List (List ℕ)) → length ys ≤ 1 → is_increasing ys ≡ true
short_rises [] h = refl
short_rises (y ∷ []) h = refl
short_rises (y ∷ z ∷ ys) h = absurd (omega arith)

pub all_compared : (xs : List (List ℕ)) (i : ℕ) (all : Bool) → length xs ≤ i → is_increasing (drop (i - 1) xs) ≡ all →
    true ≡ all
all_compared xs i all le so_far = sym (short_rises (drop (i - 1) xs) (omega (arith, length-drop (i - 1) xs))) ∙ so_far

pub neighbours : (xs : List (List ℕ)) (i : ℕ) (x y : List ℕ) → 1 ≤ i → i < length xs → get_or xs (i - 1) x ≡ x →
    get_or xs i y ≡ y → is_increasing (drop (i - 1) xs) ≡ (is_lt (slice_cmp nat_cmp x y) && is_increasing (drop i xs))
neighbours xs i x y low lt first second =
    let one : i - 1 < length xs = omega arith in
    let next : i - 1 + 1 ≡ i = omega arith in
    let a : drop (i - 1) xs ≡ x ∷ drop i xs = drop_more xs (i - 1) x one ∙
    ap (λ (z : List ℕ). z ∷ drop (i - 1 + 1) xs) first ∙ ap (λ n. x ∷ drop n xs) next in
    let b : drop i xs ≡ y ∷ drop (i + 1) xs = drop_more xs i y lt ∙ ap (λ (z : List ℕ). z ∷ drop (i + 1) xs) second in
    ap is_increasing a ∙ ap (λ (zs : List (List ℕ)). is_increasing (x ∷ zs)) b ∙
    ap (λ (zs : List (List ℕ)). is_lt (slice_cmp nat_cmp x y) && is_increasing zs) (sym b)

-- what one comparison says
pub compared_true : (xs : List (List ℕ)) (i : ℕ) (x y : List ℕ) (b all : Bool) → 1 ≤ i → i < length xs →
    get_or xs (i - 1) x ≡ x → get_or xs i y ≡ y → b ≡ is_lt (slice_cmp nat_cmp x y) → b ≡ true →
    is_increasing (drop (i - 1) xs) ≡ all → is_increasing (drop (i + 1 - 1) xs) ≡ all
compared_true xs i x y b all low lt first second tested is so_far =
    let same : i + 1 - 1 ≡ i = omega arith in
    let less : is_lt (slice_cmp nat_cmp x y) ≡ true = sym tested ∙ is in
    ap (λ n. is_increasing (drop n xs)) same ∙ sym (neighbours xs i x y low lt first second ∙
    ap (λ t. t && is_increasing (drop i xs)) less) ∙ so_far

pub compared_false : (xs : List (List ℕ)) (i : ℕ) (x y : List ℕ) (b all : Bool) → 1 ≤ i → i < length xs →
    get_or xs (i - 1) x ≡ x → get_or xs i y ≡ y → b ≡ is_lt (slice_cmp nat_cmp x y) → b ≡ false →
    is_increasing (drop (i - 1) xs) ≡ all → false ≡ all
compared_false xs i x y b all low lt first second tested is so_far =
    let less : is_lt (slice_cmp nat_cmp x y) ≡ false = sym tested ∙ is in
    sym (neighbours xs i x y low lt first second ∙ ap (λ t. t && is_increasing (drop i xs)) less) ∙ so_far

-- the same of names
pub name_at : {V : Type 0} (es : List (List ℕ × V)) (i : ℕ) (e : List ℕ × V) (x : List ℕ) → i < length es →
    x ≡ (get_or es i e).0 → get_or (map (λ (d : List ℕ × V). d.0) es) i x ≡ x
name_at {V} [] i e x lt named = absurd (omega arith)
name_at {V} (d ∷ es) zero e x lt named = sym named
name_at {V} (d ∷ es) (suc i) e x lt named = name_at es i e x (omega arith) named

pub names_length : {V : Type 0} (es : List (List ℕ × V)) → length (map (λ (d : List ℕ × V). d.0) es) ≡ length es
names_length {V} [] = refl
names_length {V} (d ∷ es) = ap suc (names_length es)

-- ---- a set whose elements were tested

not_empty : (xs : List (List ℕ)) (e : Bool) → (xs ≡ [] → IsTrue e) → e ≡ false → 0 < length xs
not_empty [] true h f = absurd cc
not_empty [] false h f = absurd (wrong (h refl))
  where
    wrong : IsTrue false → ⊥
    wrong t = search rules
not_empty (x ∷ xs) e h f = omega arith

pub set_checked : (xs slice : List (List ℕ)) (e r : Bool) → IsTrue e ↔ (xs ≡ []) → e ≡ false → slice ≡ xs →
    r ≡ is_increasing slice → r ≡ true → IsSet xs
set_checked xs slice e r empty some same tested is = record {
  some = not_empty xs e empty.1 some;
  increasing = rises xs (ap is_increasing (sym same) ∙ sym tested ∙ is);
}
