-- The number of a name among names in canonical order.
use Rattle.std.proofs.Common.{◌≡◌, ℕ, zero, suc, ◌+◌, ◌<◌, ◌≤◌, Bool, true, false, List, [], ◌∷◌, length, get_or}
use Rattle.std.proofs.Common.{bytes_eq, Option, Result, Ok, Err, refl, sym, ap, ◌∙◌, subst, arith, ◌⊎◌, inl, inr}
use Rattle.std.specs.Prelude.{IfSome, is_some}
use Rattle.std.specs.Result.{result_ok}
use Rattle.std.specs.List.{HoldsAt, list_any}
use Rattle.std.specs.List.Sorted.{IsStrictlySortedBy, IsBinarySearchResult, IsSearchInRange, IsNonDecreasingBy}
use Rattle.std.specs.List.Sorted.{IsPartitionPoint}
use Rattle.std.specs.Ordering.{nat_cmp, is_lt, is_eq, ordering_then, ordering_reverse, ordering_index}
use Rattle.std.specs.declared.cmp.Ordering.{Ordering}
use Rattle.std.specs.declared.cmp.Ordering.TheVariants.{Less, Equal, Greater}
use Rattle.std.specs.Cmp.{IsTotalOrder, nat_cmp_total, on_total, then_total}
use Rattle.std.proofs.lemmas.Cmp.{nat_list_cmp_total, tied_itself}
use Rattle.std.proofs.lemmas.Map.Text.{is_eq-slice_cmp}
use Rattle.std.proofs.lemmas.Map.Keys.{sorted_tail}
use Rattle.std.proofs.lemmas.Map.Views.{All-after_first}
use Rattle.std.proofs.lemmas.Slice.Eq.{bytes_eq-Decides}
use Rattle.std.proofs.lemmas.List.Folds.{list_any_at, list_any_none}
use Rattle.std.proofs.lemmas.List.Sorted.{searchable_from_sorted}
use Rattle.std.proofs.lemmas.List.Sums.{position_or_len_is}
use Rattle.dbe_canon.specs.Path.{name_cmp}
use Rattle.dbe_item.specs.Names.{number_of}

pub name_total : IsTotalOrder name_cmp
name_total = then_total (on_total (λ (x : List ℕ). length x) nat_cmp_total) nat_list_cmp_total

then_equal : (a b : Ordering) → ordering_then a b ≡ Equal → b ≡ Equal
then_equal Less b e = absurd cc
then_equal Equal b e = e
then_equal Greater b e = absurd cc

-- names that compare as the same are the same
pub same_name : (x y : List ℕ) → name_cmp y x ≡ Equal → y ≡ x
same_name x y e =
    (bytes_eq-Decides y x).0 (sym (is_eq-slice_cmp y x) ∙ ap is_eq (then_equal (nat_cmp (length y) (length x)) _ e))

is_same : (x y : List ℕ) → name_cmp y x ≡ Equal → bytes_eq x y ≡ true
is_same x y e = (bytes_eq-Decides x y).1 (sym (same_name x y e))

pub differs : (x y : List ℕ) (o : Ordering) → name_cmp y x ≡ o → is_eq o ≡ false → bytes_eq x y ≡ false
differs x y o e apart = other (bytes_eq x y) refl
  where
    other : (b : Bool) → bytes_eq x y ≡ b → bytes_eq x y ≡ false
    other false same = same
    other true same =
        let equal : name_cmp y x ≡ Equal = subst (λ z. name_cmp z x ≡ Equal) ((bytes_eq-Decides x y).0 same)
        (tied_itself name_total x) in
        let wrong : true ≡ false = ap is_eq (sym equal ∙ e) ∙ apart in absurd cc

-- each name is below those after it
pub strict_at : (xs : List (List ℕ)) (i j : ℕ) (d : List ℕ) → IsStrictlySortedBy name_cmp xs → i < j → j < length xs →
    name_cmp (get_or xs i d) (get_or xs j d) ≡ Less
strict_at [] i j d s lt within = absurd (omega arith)
strict_at (x ∷ xs) zero zero d s lt within = absurd (omega arith)
strict_at (x ∷ xs) zero (suc j) d s lt within = All-after_first name_cmp x xs s j d (omega arith)
strict_at (x ∷ xs) (suc i) zero d s lt within = absurd (omega arith)
strict_at (x ∷ xs) (suc i) (suc j) d s lt within =
    strict_at xs i j d (sorted_tail name_cmp x xs s) (omega arith) (omega arith)

abbrev pub IsNumber : List (List ℕ) → List ℕ → ℕ → Type 0
IsNumber xs x i = (i ≡ number_of x xs) × (i < length xs) × (list_any (bytes_eq x) xs ≡ true)

-- the number of a name that is there, or none
abbrev pub IsNumberOrNone : List (List ℕ) → List ℕ → Option ℕ → Type 0
IsNumberOrNone xs x r = record {
  number : IfSome r (λ i. i ≡ number_of x xs);
  within : IfSome r (λ i. i < length xs);
  some : is_some r ≡ list_any (bytes_eq x) xs;
}

module _ (xs : List (List ℕ)) (x : List ℕ) (s : IsStrictlySortedBy name_cmp xs) where
  -- a name at a place has the number of its place
  pub numbered : (i : ℕ) → i < length xs → get_or xs i [] ≡ x → IsNumber xs x i
  numbered i lt is = (
    sym (position_or_len_is (bytes_eq x) xs i [] (omega arith) (λ k below. differs x (get_or xs k []) Less
        (subst (λ y. name_cmp (get_or xs k []) y ≡ Less) is (strict_at xs k i [] s below lt)) refl)
        (λ within. (bytes_eq-Decides x (get_or xs i [])).1 (sym is))),
    lt,
    list_any_at (bytes_eq x) xs i [] lt ((bytes_eq-Decides x (get_or xs i [])).1 (sym is)),
  )

  pub found : (i : ℕ) → i < length xs → HoldsAt (λ y. name_cmp y x ≡ Equal) xs i → IsNumber xs x i
  found i lt is = numbered i lt (same_name x (get_or xs i []) (is []))

  rises : IsNonDecreasingBy (λ y. ordering_index (name_cmp y x)) xs
  rises = searchable_from_sorted name_total (λ y. y) xs x (λ k d low high.
      ap is_lt (name_total.antisymm (get_or xs (k + 1) d) (get_or xs k d) ∙ ap ordering_reverse (strict_at xs k (k + 1)
      d s (omega arith) high)))

  pub missed : (i : ℕ) → (IsNonDecreasingBy (λ y. ordering_index (name_cmp y x)) xs →
      IsPartitionPoint (λ y. name_cmp y x ≡ Less) (λ y. name_cmp y x ≡ Greater) xs i) →
      list_any (bytes_eq x) xs ≡ false
  missed i gap = list_any_none (bytes_eq x) xs (λ k d lt. elim (side k) [
    | inl low ↦ differs x (get_or xs k d) Less ((gap rises).0 k d (omega arith) low) refl
    | inr high ↦ differs x (get_or xs k d) Greater ((gap rises).1 k d high lt) refl
  ])
    where
      side : (k : ℕ) → (k < i) ⊎ (i ≤ k)
      side k = grind arith

  pub searched : (r : Result ℕ ℕ) → IsSearchInRange r (length xs) → IsBinarySearchResult (λ y. name_cmp y x) xs r →
      IsNumberOrNone xs x (result_ok r)
  searched (Ok i) lt is = let n = found i lt is in record { number = n.0; within = n.1; some = sym n.2 }
  searched (Err i) lt gap = record { number = tt; within = tt; some = sym (missed i gap) }
