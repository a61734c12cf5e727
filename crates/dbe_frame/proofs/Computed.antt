-- The computed pairs in the order of their keys, and how long a key's value is.
use Rattle.std.proofs.Common.{◌≡◌, ℕ, ◌+◌, ◌-◌, ◌≤◌, ◌<◌, ◌^◌, Bool, true, false, ◌&&◌, cond, inl, inr, List, [], ◌∷◌}
use Rattle.std.proofs.Common.{length, Option, Some, None, refl, sym, ap, ◌∙◌, arith}
use Rattle.std.proofs.lemmas.Bool.{cases_lt}
use Rattle.std.proofs.lemmas.Bool.Decides.{nat_tests}
use Rattle.std.specs.Prelude.{codes, map, IfSome}
use Rattle.std.specs.List.Sorted.{IsPermutation, IsSortedBy, IsStableBy, IsStrictlySortedBy}
use Rattle.std.specs.Ordering.{nat_cmp, is_lt, is_eq, ordering_reverse}
use Rattle.std.specs.declared.cmp.Ordering.{Ordering}
use Rattle.std.specs.declared.cmp.Ordering.TheVariants.{Less, Equal, Greater}
use Rattle.std.specs.Cmp.Lexicographic.{slice_cmp}
use Rattle.std.specs.Cmp.{IsStrictWeakOrder}
use Rattle.std.proofs.lemmas.Cmp.{nat_list_cmp_total}
use Rattle.std.proofs.lemmas.List.Sorted.{ranks_by}
use Rattle.std.proofs.lemmas.Map.Text.{is_eq-slice_cmp}
use Rattle.std.proofs.lemmas.Slice.Eq.{bytes_eq-Decides}
use Rattle.dbe_num.specs.Decimal.{Decimal, IsNormal}
use Rattle.dbe_num.specs.NormalText.{normal_text}
use Rattle.dbe_num.proofs.Lengths.{text_length, few_digits, one_if, some}
use Rattle.dbe_values.specs.Val as v
use Rattle.dbe_values.specs.Val.{Val}
use Rattle.dbe_values.specs.Keys.{fits_key, fits_sort, has_length, is_lawful_key}
use Rattle.dbe_values.specs.declared.key.KeyName.{KeyName}
use Rattle.dbe_values.specs.declared.key.KeySchema.{KeySchema}
use Rattle.dbe_values.specs.declared.key.KeyKind.{KeyKind}
use Rattle.dbe_values.specs.declared.key.KeyKind.TheVariants as kind
use Rattle.dbe_canon.specs.Canon.{canon_of}
use Rattle.dbe_frame.specs.Context.{attribute_pair, pair_below, sort_pairs, key_pairs, computed_pairs, HasTwoNames}
use Rattle.dbe_frame.specs.Keys.{IsNormalNumber, IsShortValue}
use Rattle.dbe_frame.specs.Sorted.{in_order}
use Rattle.dbe_frame.proofs.Sorting.{order_permutes, sorted_is}

-- ---- how long a key's value is

one_at_most : (b : Bool) → one_if b ≤ 1
one_at_most true = omega arith
one_at_most false = omega arith

few_places : (d : Decimal) → IsNormal d → d.place ≤ 293
few_places d h =
    elim (cases_lt 0 d.digits) [
      | inl lt ↦ omega (arith, h.not_large lt)
      | inr le ↦ (let zero : d.digits ≡ 0 = omega arith in let place : d.place ≡ 167 =
          ap (λ (x : Decimal). x.place) (h.one_zero zero) in omega arith)
    ]

number_short : (d : Decimal) → IsNormal d → length (normal_text d) ≤ 65533
number_short d h =
    let small : d.digits < 10 ^ 64 = omega (arith, h.few) in
    omega (
      arith,
      text_length d,
      few_digits d.digits small,
      few_places d h,
      one_at_most d.negative,
      one_at_most (some (167 - d.place)),
    )

text_short : (most : ℕ) (x : List ℕ) → has_length most x ≡ true → most ≤ 2048 → length x ≤ 65533
text_short most x e le = grind (arith, nat_tests)

with_type : (n : ℕ) → n ≤ 65533 → 2 + n ≤ 65535
with_type n le = omega arith

pub key_short : (most : ℕ) (k : KeyKind) (value : Val) → fits_key most k value ≡ true → most ≤ 2048 →
    IsNormalNumber value → IsShortValue value
unfolding canon_of
key_short most kind.S (v.text x) e le n = with_type (length x) (text_short most x e le)
key_short most kind.N (v.number d) e le n = with_type (length (normal_text d)) (number_short d n)
key_short most kind.B (v.binary x) e le n = with_type (length x) (text_short most x e le)
key_short most _ _ e le n = absurd cc

-- ---- the pairs in order

pub pairs_weak : IsStrictWeakOrder pair_below
pairs_weak = ranks_by nat_list_cmp_total (λ (p : List ℕ × List ℕ). p.0)

-- what a stable sort of the pairs gives
pub pairs_sorted : (schema : KeySchema) (table : List ℕ) (key : Val × Option Val) (before after : List (List ℕ ×
    List ℕ)) → before ≡ key_pairs schema table key
    → IsSortedBy pair_below after → IsStableBy pair_below before after → after ≡ computed_pairs schema table key
pairs_sorted schema table key before after is sorted stable = sorted_is pair_below pairs_weak before after sorted
    stable ∙ ap (λ pairs. in_order pair_below pairs) is

pub pairs_permuted : (schema : KeySchema) (table : List ℕ) (key : Val × Option Val) →
    IsPermutation (key_pairs schema table key) (computed_pairs schema table key)
pairs_permuted schema table key = order_permutes pair_below (key_pairs schema table key)

abbrev Strict : List (List ℕ × List ℕ) → Type 0
Strict pairs = IsStrictlySortedBy (slice_cmp nat_cmp) (map (λ pair. pair.0) pairs)

-- the names of the key and the table
abbrev named : List ℕ → List ℕ → List ℕ → List (List ℕ × List ℕ)
named table partition sort =
    (codes "aws-crypto-partition-name", partition) ∷ (
      codes "aws-crypto-sort-name",
      sort,
    ) ∷ (codes "aws-crypto-table-name", table) ∷ []

plain_strict : (table partition : List ℕ) (value : Val) →
    Strict (in_order pair_below (attribute_pair partition value ∷ (
      codes "aws-crypto-partition-name",
      partition,
    ) ∷ (codes "aws-crypto-table-name", table) ∷ []))
unfolding in_order IsStrictlySortedBy
plain_strict table partition value = ((refl, (refl, tt)), ((refl, tt), (tt, tt)))

named_strict : (table partition sort : List ℕ) → Strict (named table partition sort)
unfolding IsStrictlySortedBy
named_strict table partition sort = ((refl, (refl, tt)), ((refl, tt), (tt, tt)))

-- two attributes, the first with the lower name
two_strict : (table partition sort a b : List ℕ) (x y : Val) → slice_cmp nat_cmp a b ≡ Less →
    Strict (attribute_pair a x ∷ attribute_pair b y ∷ named table partition sort)
unfolding IsStrictlySortedBy
two_strict table partition sort a b x y e = (
  (e, (refl, (refl, (refl, tt)))),
  (
    (refl, (refl, (refl, tt))),
    named_strict table partition sort,
  ),
)

flipped : (o p : Ordering) → o ≡ ordering_reverse p → p ≡ Greater → o ≡ Less
flipped o Less e f = absurd cc
flipped o Equal e f = absurd cc
flipped o Greater e f = e

same_names : (x y : List ℕ) → slice_cmp nat_cmp x y ≡ Equal → x ≡ y
same_names x y e = (bytes_eq-Decides x y).0 (sym (is_eq-slice_cmp x y) ∙ ap is_eq e)

sorted_strict : (table partition sort : List ℕ) (value sort_value : Val) (o : Ordering) →
    slice_cmp nat_cmp sort partition ≡ o → (sort ≡ partition → ⊥)
    → Strict (cond (is_lt o) (attribute_pair sort sort_value ∷ attribute_pair partition value ∷ named table partition
    sort) (attribute_pair partition value ∷ attribute_pair sort sort_value ∷ named table partition sort))
sorted_strict table partition sort value sort_value Less e differ =
    two_strict table partition sort sort partition sort_value value e
sorted_strict table partition sort value sort_value Equal e differ = absurd (differ (same_names sort partition e))
sorted_strict table partition sort value sort_value Greater e differ =
    two_strict table partition sort partition sort value sort_value (flipped (slice_cmp nat_cmp partition sort)
    (slice_cmp nat_cmp sort partition) (nat_list_cmp_total.antisymm partition sort) e)

pairs_strict_by : (table partition : List ℕ) (value : Val) (sort : Option KeyName) (sort_value : Option Val) →
    IfSome sort (λ s. s.name ≡ partition → ⊥)
    → Strict (in_order pair_below (attribute_pair partition value ∷ (
      codes "aws-crypto-partition-name",
      partition,
    ) ∷ (codes "aws-crypto-table-name", table) ∷ sort_pairs sort sort_value))
unfolding in_order
pairs_strict_by table partition value None sort_value differ = plain_strict table partition value
pairs_strict_by table partition value (Some sort) None differ = plain_strict table partition value
pairs_strict_by table partition value (Some sort) (Some sort_value) differ =
    sorted_strict table partition sort.name value sort_value (slice_cmp nat_cmp sort.name partition) refl differ

pub pairs_strict : (schema : KeySchema) (table : List ℕ) (key : Val × Option Val) → HasTwoNames schema →
    IsStrictlySortedBy (slice_cmp nat_cmp) (map (λ pair. pair.0) (computed_pairs schema table key))
pairs_strict schema table key differ = pairs_strict_by table schema.partition.name key.0 schema.sort key.1 differ

-- ---- the values of a valid key

both : (a b : Bool) → a && b ≡ true → (a ≡ true) × (b ≡ true)
both true b e = (refl, e)
both false b e = absurd cc

pub partition_short : (schema : KeySchema) (k : Val × Option Val) → is_lawful_key schema k ≡ true →
    IsNormalNumber k.0 → IsShortValue k.0
partition_short schema k lawful normal =
    key_short 2048 schema.partition.kind k.0 (both (fits_key 2048 schema.partition.kind k.0)
    (fits_sort schema.sort k.1) lawful).0 (omega arith) normal

pub sort_short : (schema : KeySchema) (k : Val × Option Val) (sort : KeyName) (value : Val) →
    is_lawful_key schema k ≡ true → schema.sort ≡ Some sort → k.1 ≡ Some value → IsNormalNumber value →
    IsShortValue value
sort_short schema k sort value lawful named valued normal =
    let fits : fits_sort schema.sort k.1 ≡ true =
    (both (fits_key 2048 schema.partition.kind k.0) (fits_sort schema.sort k.1) lawful).1 in
    let here : fits_key 1024 sort.kind value ≡ true = ap (λ (o : Option Val). fits_sort (Some sort) o) (sym valued) ∙
    ap (λ (n : Option KeyName). fits_sort n k.1) (sym named) ∙ fits in
    key_short 1024 sort.kind value here (omega arith) normal
