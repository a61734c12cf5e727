-- What holds of an item that may be stored.
use Rattle.std.proofs.Common.{◌≡◌, ℕ, suc, ◌+◌, ◌<◌, ◌≤◌, ◌^◌, Bool, true, false, not, ◌||◌, cond, List, [], ◌∷◌}
use Rattle.std.proofs.Common.{length, filter}
use Rattle.std.proofs.Common.{map, get_or, bytes_eq, nat_lt, sum_by, Option, Some, None, IfSome, Result, Ok, Err, is_ok}
use Rattle.std.proofs.Common.{refl, sym, ap, ◌∙◌}
use Rattle.std.proofs.Common.{subst, arith}
use Rattle.std.specs.List.{AllByRecursion, list_any, position_or_len}
use Rattle.std.specs.Result.{result_err}
use Rattle.std.proofs.lemmas.Bool.Decides.{nat_tests}
use Rattle.std.proofs.lemmas.List.Sums.{sum_by-cons}
use Rattle.std.proofs.lemmas.Slice.Eq.{bytes_eq-Decides}
use Rattle.dbe_values.specs.View.{view}
use Rattle.dbe_values.specs.Val.{Val}
use Rattle.dbe_values.specs.Attributes.{value_at}
use Rattle.dbe_values.specs.Keys.{key_fault, has_key, row_key, part_of, partition_found, with_sort, sort_found, lawful}
use Rattle.dbe_values.specs.Lawful.{names_of}
use Rattle.dbe_values.specs.declared.value.AttrValue.{AttrValue}
use Rattle.dbe_values.specs.declared.key.KeyName.{KeyName}
use Rattle.dbe_values.specs.declared.key.KeySchema.{KeySchema}
use Rattle.dbe_canon.specs.Canon.{canon_of}
use Rattle.dbe_config.specs.Setting.{Setting}
use Rattle.dbe_config.specs.Actions.{is_reserved}
use Rattle.dbe_frame.specs.Sorted.{insert_by, in_order}
use Rattle.dbe_item.specs.Acceptance.{put_fault, or_next, fault_of_key, reserved_fault, unknown_fault, fault_where}
use Rattle.dbe_item.specs.Acceptance.{first_name, is_unknown}
use Rattle.dbe_item.specs.Acceptance.{attribute_size, item_size}
use Rattle.dbe_item.specs.Names.{legend_byte}
use Rattle.dbe_item.specs.declared.fault.PutFault.{PutFault}
use Rattle.dbe_item.specs.declared.fault.PutFault.TheVariants as f
use Rattle.dbe_item.proofs.SealsPut.{Attribute, same_bytes}

-- ---- the parts of an acceptance

both_none : (a b : Option PutFault) → or_next a b ≡ None → (a ≡ None) × (b ≡ None)
both_none None b e = (refl, e)
both_none (Some x) b e = absurd cc

no_key_fault : (o : Option (List ℕ)) → fault_of_key o ≡ None → o ≡ None
no_key_fault None e = refl
no_key_fault (Some x) e = absurd cc

no_reserved : (o : Option (List ℕ)) → reserved_fault o ≡ None → o ≡ None
no_reserved None e = refl
no_reserved (Some x) e = absurd cc

is_kept : (b : Bool) (fault : PutFault) → fault_where b fault ≡ None → b ≡ false
is_kept false fault e = refl
is_kept true fault e = absurd cc

within : (limit n : ℕ) → nat_lt limit n ≡ false → n ≤ limit
within limit n e = grind (arith, nat_tests)

first_step : (test : List ℕ → Bool) (a : Attribute) (b : Bool) (o : Option (List ℕ)) → cond b (Some a.0) o ≡ None →
    (b ≡ false) × (o ≡ None)
first_step test a false o e = (refl, e)
first_step test a true o e = absurd cc

none_named : (test : List ℕ → Bool) (item : List Attribute) → first_name test item ≡ None →
    AllByRecursion (λ (a : Attribute). test a.0 ≡ false) item
none_named test [] e = tt
none_named test (a ∷ item) e =
    let s = first_step test a (test a.0) (first_name test item) e in (s.0, none_named test item s.1)

sizes : (item : List Attribute) (most : ℕ) → sum_by attribute_size item ≤ most → most < 2 ^ 64 →
    AllByRecursion (λ (a : Attribute). length (canon_of (view a.1)) < 2 ^ 64) item
sizes [] most le small = tt
sizes (a ∷ item) most le small =
    let more : sum_by attribute_size (a ∷ item) ≡ (length a.0 + length (canon_of (view a.1))) +
    sum_by attribute_size item = sum_by-cons attribute_size a item in
    (omega (arith, more, le, small), sizes item most (omega (arith, more, le)) small)

ok_from : {A B : Type 0} (r : Result A B) → result_err r ≡ None → is_ok r ≡ true
ok_from (Ok a) e = refl
ok_from (Err b) e = absurd cc

pub record IsAccepted (c : Setting) (item : List Attribute) : Type 0 where
  pub keyed : has_key c.schema item ≡ true
  pub unreserved : AllByRecursion (λ (a : Attribute). is_reserved a.0 ≡ false) item
  pub few : length item ≤ 1000
  pub small : AllByRecursion (λ (a : Attribute). length (canon_of (view a.1)) < 2 ^ 64) item

pub is_accepted : (c : Setting) (item : List Attribute) → put_fault c item ≡ None → IsAccepted c item
is_accepted c item e =
    let p = both_none (fault_of_key (key_fault c.schema item)) _ e in
    let q = both_none (reserved_fault (first_name is_reserved item)) _ p.1 in
    let r = both_none (unknown_fault (first_name (is_unknown c) item)) _ q.1 in
    let s = both_none (fault_where (nat_lt 1000 (length item)) f.TooMany) _ r.1 in
    record {
      keyed = ok_from (row_key c.schema item) (no_key_fault (key_fault c.schema item) p.0);
      unreserved = none_named is_reserved item (no_reserved (first_name is_reserved item) q.0);
      few = within 1000 (length item) (is_kept (nat_lt 1000 (length item)) f.TooMany s.0);
      small = sizes item 409600 (within 409600 (item_size item) (is_kept (nat_lt 409600 (item_size item)) f.Size s.1))
          (omega arith);
    }

-- ---- keys

with_same : (v : Val) (row other : List Attribute) (sort : Option KeyName) →
    IfSome sort (λ s. value_at s.name other ≡ value_at s.name row) → with_sort v other sort ≡ with_sort v row sort
with_same v row other None q = refl
with_same v row other (Some s) q = ap (λ o. sort_found v s.name (lawful 1024 s.kind o)) q

found_same : (schema : KeySchema) (row other : List Attribute) (x : Option Val) →
    IfSome schema.sort (λ s. value_at s.name other ≡ value_at s.name row) →
    partition_found schema other x ≡ partition_found schema row x
found_same schema row other None q = refl
found_same schema row other (Some v) q = with_same v row other schema.sort q

-- rows with the same key attributes have the same key
pub same_key : (schema : KeySchema) (row other : List Attribute) →
    value_at schema.partition.name other ≡ value_at schema.partition.name row →
    IfSome schema.sort (λ s. value_at s.name other ≡ value_at s.name row) → row_key schema other ≡ row_key schema row
same_key schema row other p q =
    ap (λ o. partition_found schema other (lawful 2048 schema.partition.kind o)) p
    ∙ found_same schema row other (part_of 2048 schema.partition row) q

partition_by : (schema : KeySchema) (row : List Attribute) (o : Option AttrValue) →
    is_ok (partition_found schema row (lawful 2048 schema.partition.kind o)) ≡ true → o ≡ None → ⊥
partition_by schema row None h e = absurd cc
partition_by schema row (Some v) h e = absurd cc

pub has_partition : (schema : KeySchema) (row : List Attribute) → has_key schema row ≡ true →
    value_at schema.partition.name row ≡ None → ⊥
has_partition schema row h = partition_by schema row (value_at schema.partition.name row) h

sort_by : (v : Val) (s : KeyName) (o : Option AttrValue) → is_ok (sort_found v s.name (lawful 1024 s.kind o)) ≡ true →
    o ≡ None → ⊥
sort_by v s None h e = absurd cc
sort_by v s (Some x) h e = absurd cc

sort_with : (v : Val) (row : List Attribute) (sort : Option KeyName) → is_ok (with_sort v row sort) ≡ true →
    IfSome sort (λ s. value_at s.name row ≡ None → ⊥)
sort_with v row None h = tt
sort_with v row (Some s) h = sort_by v s (value_at s.name row) h

sort_found_by : (schema : KeySchema) (row : List Attribute) (x : Option Val) →
    is_ok (partition_found schema row x) ≡ true → IfSome schema.sort (λ s. value_at s.name row ≡ None → ⊥)
sort_found_by schema row None h = absurd cc
sort_found_by schema row (Some v) h = sort_with v row schema.sort h

pub has_sort : (schema : KeySchema) (row : List Attribute) → has_key schema row ≡ true →
    IfSome schema.sort (λ s. value_at s.name row ≡ None → ⊥)
has_sort schema row h = sort_found_by schema row (part_of 2048 schema.partition row) h

-- ---- names that are there

there_step : (P : List ℕ → Type 0) (name : List ℕ) (a : Attribute) (b : Bool) (o : Option AttrValue) →
    bytes_eq a.0 name ≡ b → (cond b (Some a.1) o ≡ None → ⊥) → P a.0 → ((o ≡ None → ⊥) → P name) → P name
there_step P name a true o e some p r = subst P ((bytes_eq-Decides a.0 name).0 e) p
there_step P name a false o e some p r = r some

-- what holds of all names holds of one that is there
pub holds_there : (P : List ℕ → Type 0) (name : List ℕ) (item : List Attribute) → (value_at name item ≡ None → ⊥) →
    AllByRecursion (λ (a : Attribute). P a.0) item → P name
holds_there P name [] some h = absurd (some refl)
holds_there P name (a ∷ item) some h =
    there_step P name a (bytes_eq a.0 name) (value_at name item) refl some h.0 (λ k. holds_there P name item k h.1)

listed_more : (xs : List Attribute) (name : List ℕ) (item : List Attribute) →
    AllByRecursion (λ (a : Attribute). list_any (bytes_eq a.0) (names_of item) ≡ true) xs →
    AllByRecursion (λ (a : Attribute). (bytes_eq a.0 name || list_any (bytes_eq a.0) (names_of item)) ≡ true) xs
listed_more [] name item h = tt
listed_more (a ∷ xs) name item h = (or_true (bytes_eq a.0 name) _ h.0, listed_more xs name item h.1)
  where
    or_true : (b d : Bool) → d ≡ true → (b || d) ≡ true
    or_true true d e = refl
    or_true false d e = e

pub all_listed : (item : List Attribute) →
    AllByRecursion (λ (a : Attribute). list_any (bytes_eq a.0) (names_of item) ≡ true) item
all_listed [] = tt
all_listed (a ∷ item) = (
  ap (λ b. b || list_any (bytes_eq a.0) (names_of item)) (same_bytes a.0),
  listed_more item a.0 item
      (all_listed item),
)

-- ---- names in order

swap_or : (a b d : Bool) → (b || (a || d)) ≡ (a || (b || d))
swap_or true true d = refl
swap_or true false d = refl
swap_or false true d = refl
swap_or false false d = refl

module _ (below : List ℕ → List ℕ → Bool) where
  any_step : (p : List ℕ → Bool) (x y : List ℕ) (ys zs : List (List ℕ)) (b : Bool) →
      list_any p zs ≡ (p x || list_any p ys) →
      list_any p (cond b (y ∷ zs) (x ∷ y ∷ ys)) ≡ (p x || (p y || list_any p ys))
  any_step p x y ys zs true e = ap (λ r. p y || r) e ∙ swap_or (p x) (p y) (list_any p ys)
  any_step p x y ys zs false e = refl

  any_insert : (p : List ℕ → Bool) (x : List ℕ) (ys : List (List ℕ)) →
      list_any p (insert_by below x ys) ≡ (p x || list_any p ys)
  any_insert p x [] = refl
  any_insert p x (y ∷ ys) = any_step p x y ys (insert_by below x ys) (below y x) (any_insert p x ys)

  pub any_order : (p : List ℕ → Bool) (xs : List (List ℕ)) → list_any p (in_order below xs) ≡ list_any p xs
  unfolding in_order
  any_order p [] = refl
  any_order p (x ∷ xs) = any_insert p x (in_order below xs) ∙ ap (λ r. p x || r) (any_order p xs)

legend_step : (c : Setting) (name x : List ℕ) (xs : List (List ℕ)) (b : Bool) → bytes_eq name x ≡ b →
    (b || list_any (bytes_eq name) xs) ≡ true →
    (list_any (bytes_eq name) xs ≡ true →
    get_or (map (legend_byte c) xs) (position_or_len (bytes_eq name) xs) 0 ≡ legend_byte c name) →
    get_or (legend_byte c x ∷ map (legend_byte c) xs) (cond (not b) (1 + position_or_len (bytes_eq name) xs) 0) 0
    ≡ legend_byte c name
legend_step c name x xs true e h r = ap (legend_byte c) (sym ((bytes_eq-Decides name x).0 e))
legend_step c name x xs false e h r =
    let next : 1 + position_or_len (bytes_eq name) xs ≡ suc (position_or_len (bytes_eq name) xs) = omega arith in
    ap (λ (n : ℕ). get_or (legend_byte c x ∷ map (legend_byte c) xs) n 0) next ∙ r h

-- the legend byte of a name among the signed ones
pub legend_at : (c : Setting) (name : List ℕ) (xs : List (List ℕ)) → list_any (bytes_eq name) xs ≡ true →
    get_or (map (legend_byte c) xs) (position_or_len (bytes_eq name) xs) 0 ≡ legend_byte c name
legend_at c name [] h = absurd cc
legend_at c name (x ∷ xs) h = legend_step c name x xs (bytes_eq name x) refl h (legend_at c name xs)

length_step : (b : Bool) (x : List ℕ) (xs : List (List ℕ)) (n : ℕ) → length xs ≤ n → length (cond b (x ∷ xs) xs) ≤ suc n
length_step true x xs n le = omega (arith, le)
length_step false x xs n le = omega (arith, le)

pub length_kept : (test : List ℕ → Bool) (xs : List (List ℕ)) → length (filter test xs) ≤ length xs
length_kept test [] = omega arith
length_kept test (x ∷ xs) = length_step (test x) x (filter test xs) (length xs) (length_kept test xs)
