-- Walks over the attributes of an item.
use Rattle.std.proofs.Common.{◌≡◌, ℕ, ◌+◌, ◌<◌, ◌≤◌, Bool, true, false, List, ◌∷◌, Some, None, sym, ap, ◌∙◌, arith}
use Rattle.std.proofs.Common.{length, drop, sum_by, nat_lt, if◌then◌else◌}
use Rattle.std.specs.declared.option.Option.{Option}
use Rattle.std.specs.List.{slice_get}
use Rattle.std.proofs.lemmas.Bool.Decides.{nat_tests}
use Rattle.std.proofs.lemmas.Option.{slice_get_within, get_or_from_slice_get}
use Rattle.std.proofs.lemmas.List.Sums.{sum_by-cons}
use Rattle.std.proofs.lemmas.List.{drop_more, drop_all}
use Rattle.dbe_values.specs.declared.value.AttrValue.{AttrValue}
use Rattle.dbe_item.specs.Acceptance.{first_name}

abbrev pub Attribute : Type 0
Attribute = List ℕ × AttrValue

pub drop_at : (item : List Attribute) (i : ℕ) (a : Attribute) → slice_get item i ≡ Some a →
    drop i item ≡ a ∷ drop (i + 1) item
drop_at item i a is = drop_more item i a (slice_get_within item i a is) ∙
    ap (λ x. x ∷ drop (i + 1) item) (get_or_from_slice_get item i a a is)

-- one name more does not pass
pub none_more : (test : List ℕ → Bool) (item : List Attribute) (i : ℕ) (a : Attribute) {all : Option (List ℕ)} →
    slice_get item i ≡ Some a → test a.0 ≡ false → first_name test (drop i item) ≡ all →
    first_name test (drop (i + 1) item) ≡ all
none_more test item i a is fails done = sym (ap (first_name test) (drop_at item i a is) ∙
    ap (λ t. if t then Some a.0 else first_name test (drop (i + 1) item)) fails) ∙ done

-- one name passes
pub one_passes : (test : List ℕ → Bool) (item : List Attribute) (i : ℕ) (a : Attribute) {all : Option (List ℕ)} →
    slice_get item i ≡ Some a → test a.0 ≡ true → first_name test (drop i item) ≡ all → Some a.0 ≡ all
one_passes test item i a is passes done = sym (ap (first_name test) (drop_at item i a is) ∙
    ap (λ t. if t then Some a.0 else first_name test (drop (i + 1) item)) passes) ∙ done

pub none_left : (test : List ℕ → Bool) (item : List Attribute) (i : ℕ) {all : Option (List ℕ)} → length item ≤ i →
    first_name test (drop i item) ≡ all → None ≡ all
none_left test item i le done = sym (ap (first_name test) (drop_all i item le)) ∙ done

-- one attribute more is counted
pub sum_at : (f : Attribute → ℕ) (item : List Attribute) (i : ℕ) (a : Attribute) → slice_get item i ≡ Some a →
    sum_by f (drop i item) ≡ f a + sum_by f (drop (i + 1) item)
sum_at f item i a is = ap (sum_by f) (drop_at item i a is) ∙ sum_by-cons f a (drop (i + 1) item)

pub sum_end : (f : Attribute → ℕ) (item : List Attribute) (i : ℕ) → length item ≤ i → sum_by f (drop i item) ≡ 0
sum_end f item i le = ap (sum_by f) (drop_all i item le)

-- a sum past the limit
pub past_limit : (total limit : ℕ) → limit < total → true ≡ nat_lt limit total
past_limit total limit lt = grind (arith, nat_tests)

pub within_limit : (total limit : ℕ) → total ≤ limit → false ≡ nat_lt limit total
within_limit total limit le = grind (arith, nat_tests)
