-- Names in canonical order.
use Rattle.std.proofs.Common.{◌≡◌, ℕ, suc, Bool, true, false, List, [], ◌∷◌, length, refl, ap, ◌∙◌, arith}
use Rattle.std.specs.Prelude.{not}
use Rattle.std.specs.List.{All, AllByRecursion, IsDistinct}
use Rattle.std.specs.List.Sorted.{IsPermutation, IsSortedBy, IsStableBy, IsStrictlySortedBy}
use Rattle.std.specs.Ordering.{nat_cmp, is_lt, is_eq, ordering_then, ordering_reverse, eq_by_cmp}
use Rattle.std.specs.declared.cmp.Ordering.{Ordering}
use Rattle.std.specs.declared.cmp.Ordering.TheVariants.{Less, Equal, Greater}
use Rattle.std.specs.Cmp.{IsTotalOrder, IsStrictWeakOrder, nat_cmp_total, on_total, then_total}
use Rattle.std.specs.Cmp.Lexicographic.{slice_cmp}
use Rattle.std.proofs.lemmas.Cmp.{nat_list_cmp_total}
use Rattle.std.proofs.lemmas.List.Elements.{All-from_get_or, recursion_from_All}
use Rattle.std.proofs.lemmas.List.Kept.{IsStrictlySortedBy-filter}
use Rattle.std.proofs.lemmas.List.Sorted.{ranks_by}
use Rattle.std.proofs.lemmas.Map.Keys.{IsDistinct-from_sorted, IsDistinct-IsPermutation}
use Rattle.dbe_values.specs.Sets.{IsIncreasing}
use Rattle.dbe_values.specs.Lawful.{IsLawfulItem, names_of}
use Rattle.dbe_values.specs.declared.value.AttrValue.{AttrValue}
use Rattle.dbe_canon.specs.Path.{name_cmp}
use Rattle.dbe_config.specs.Actions.{is_unsigned}
use Rattle.dbe_config.specs.Setting.{Setting}
use Rattle.dbe_frame.specs.Signed.{name_below, signed_among, signed_names}
use Rattle.dbe_frame.specs.Sorted.{in_order}
use Rattle.dbe_frame.proofs.Sorting.{Ascends, order_ascends, order_permutes, sorted_is}

name_total : IsTotalOrder name_cmp
name_total = then_total (on_total (λ (x : List ℕ). length x) nat_cmp_total) nat_list_cmp_total

pub names_weak : IsStrictWeakOrder name_below
names_weak = ranks_by name_total (λ (x : List ℕ). x)

-- ---- names that differ

-- two names have the same bytes
abbrev ties : List ℕ → List ℕ → Bool
ties = eq_by_cmp (slice_cmp nat_cmp)

reversed_eq : (o p : Ordering) → o ≡ ordering_reverse p → is_eq o ≡ is_eq p
reversed_eq o Less e = rw e refl
reversed_eq o Equal e = rw e refl
reversed_eq o Greater e = rw e refl

ties_flip : (x y : List ℕ) → ties x y ≡ ties y x
ties_flip x y = reversed_eq (slice_cmp nat_cmp x y) (slice_cmp nat_cmp y x) (nat_list_cmp_total.antisymm x y)

then_equal : (a b : Ordering) → ordering_then a b ≡ Equal → b ≡ Equal
then_equal Less b e = absurd cc
then_equal Equal b e = e
then_equal Greater b e = absurd cc

true_not : (b : Bool) → b ≡ true → b ≡ false → ⊥
true_not b e f = cc

-- names that differ and are not above one another are in order
less_from : (o p q : Ordering) → o ≡ ordering_reverse p → is_lt p ≡ false → (o ≡ Equal → q ≡ Equal) →
    is_eq q ≡ false → o ≡ Less
less_from Less p q e f g h = refl
less_from Equal p q e f g h = absurd (true_not (is_eq q) (ap is_eq (g refl)) h)
less_from Greater Less q e f g h = absurd cc
less_from Greater Equal q e f g h = absurd cc
less_from Greater Greater q e f g h = absurd cc

below_from : (x y : List ℕ) → name_below y x ≡ false → ties x y ≡ false → name_cmp x y ≡ Less
below_from x y f h = less_from (name_cmp x y) (name_cmp y x) (slice_cmp nat_cmp x y) (name_total.antisymm x y) f
    (then_equal (nat_cmp (length x) (length y)) (slice_cmp nat_cmp x y)) h

all_below : (x : List ℕ) (ys : List (List ℕ)) → AllByRecursion (λ y. name_below y x ≡ false) ys →
    AllByRecursion (λ y. ties x y ≡ false) ys → AllByRecursion (λ y. name_cmp x y ≡ Less) ys
all_below x [] f h = tt
all_below x (y ∷ ys) f h = (below_from x y f.0 h.0, all_below x ys f.1 h.1)

strict : (xs : List (List ℕ)) → Ascends name_below xs → IsDistinct ties xs → IsStrictlySortedBy name_cmp xs
unfolding IsStrictlySortedBy IsDistinct
strict [] h d = tt
strict (x ∷ xs) h d = (all_below x xs h.0 d.0, strict xs h.1 d.1)

-- ---- the names of a row

increasing_sorted : (xs : List (List ℕ)) → IsIncreasing xs → IsStrictlySortedBy (slice_cmp nat_cmp) xs
unfolding IsStrictlySortedBy
increasing_sorted [] h = tt
increasing_sorted (x ∷ xs) h =
    let above : All (λ y. slice_cmp nat_cmp x y ≡ Less) xs = All-from_get_or (λ y. slice_cmp nat_cmp x y ≡ Less) xs []
    (λ i lt. h 0 (suc i) (omega arith) (omega arith)) in (
      recursion_from_All (λ y. slice_cmp nat_cmp x y ≡ Less) xs above,
      increasing_sorted xs (λ i j below within. h (suc i) (suc j) (omega arith) (omega arith)),
    )

among_distinct : (s : Setting) (row : List (List ℕ × AttrValue)) → IsLawfulItem row →
    IsDistinct ties (signed_among s row)
among_distinct s row lawful =
    let p = λ (name : List ℕ). not (is_unsigned s.schema s.actions s.unsigned_prefix name) in
    IsDistinct-from_sorted (slice_cmp nat_cmp) (signed_among s row) (IsStrictlySortedBy-filter (slice_cmp nat_cmp) p
    (names_of row) (increasing_sorted (names_of row) lawful.increasing))

pub names_permuted : (s : Setting) (row : List (List ℕ × AttrValue)) →
    IsPermutation (signed_among s row) (signed_names s row)
names_permuted s row = order_permutes name_below (signed_among s row)

pub names_strict : (s : Setting) (row : List (List ℕ × AttrValue)) → IsLawfulItem row →
    IsStrictlySortedBy name_cmp (signed_names s row)
names_strict s row lawful =
    strict (signed_names s row) (order_ascends name_below names_weak (signed_among s row)) (IsDistinct-IsPermutation
    ties ties_flip (signed_among s row) (signed_names s row) (names_permuted s row) (among_distinct s row lawful))

-- what a stable sort of them gives
pub names_sorted : (s : Setting) (row : List (List ℕ × AttrValue)) (before after : List (List ℕ)) →
    before ≡ signed_among s row → IsSortedBy name_below after → IsStableBy name_below before after →
    after ≡ signed_names s row
names_sorted s row before after is sorted stable = sorted_is name_below names_weak before after sorted stable ∙
    ap (λ xs. in_order name_below xs) is
