-- The key that a row has is valid for its schema.
use Rattle.std.proofs.Common.{◌≡◌, ℕ, ◌&&◌, Bool, true, false, if◌then◌else◌, List, Option, Some, None, Ok, refl, ap}
use Rattle.std.proofs.Common.{◌∙◌, subst}
use Rattle.dbe_values.specs.Val.{Val}
use Rattle.dbe_values.specs.View.{view}
use Rattle.dbe_values.specs.Keys.{fits_key, lawful, part_of, sort_found, with_sort, partition_found, row_key}
use Rattle.dbe_values.specs.Keys.{fits_sort, is_lawful_key}
use Rattle.dbe_values.specs.declared.value.AttrValue.{AttrValue}
use Rattle.dbe_values.specs.declared.key.KeyKind.{KeyKind}
use Rattle.dbe_values.specs.declared.key.KeyName.{KeyName}
use Rattle.dbe_values.specs.declared.key.KeySchema.{KeySchema}

fits_if : (most : ℕ) (kind : KeyKind) (w v : Val) (t : Bool) → fits_key most kind w ≡ t →
    (if t then Some w else None) ≡ Some v → fits_key most kind v ≡ true
fits_if most kind w v true fits is = let same : w ≡ v = cc in subst (λ x. fits_key most kind x ≡ true) same fits
fits_if most kind w v false fits is = absurd (cc)

fits_found : (most : ℕ) (kind : KeyKind) (o : Option AttrValue) (v : Val) → lawful most kind o ≡ Some v →
    fits_key most kind v ≡ true
fits_found most kind None v is = absurd (cc)
fits_found most kind (Some a) v is = fits_if most kind (view a) v (fits_key most kind (view a)) refl is

both_true : (a b : Bool) → a ≡ true → b ≡ true → a && b ≡ true
both_true a b p q = rw (p, q) refl

sort_lawful : (schema : KeySchema) (sort : KeyName) (p : Val) (o : Option AttrValue) (found : Option Val) (k : Val ×
    Option Val) → schema.sort ≡ Some sort → lawful 1024 sort.kind o ≡ found →
    fits_key 2048 schema.partition.kind p ≡ true → sort_found p sort.name found ≡ Ok k → is_lawful_key schema k ≡ true
sort_lawful schema sort p o None k is_sort is fits read = absurd (cc)
sort_lawful schema sort p o (Some s) k is_sort is fits read =
    let same : (p, Some s) ≡ k = cc in
    subst (λ x. is_lawful_key schema x ≡ true) same (both_true _ _ fits (ap (λ n. fits_sort n (Some s)) is_sort ∙
    fits_found 1024 sort.kind o s is))

with_lawful : (schema : KeySchema) (row : List (List ℕ × AttrValue)) (sort : Option KeyName) (p : Val) (k : Val ×
    Option Val) → schema.sort ≡ sort → fits_key 2048 schema.partition.kind p ≡ true → with_sort p row sort ≡ Ok k →
    is_lawful_key schema k ≡ true
with_lawful schema row None p k is_sort fits read =
    let same : (p, None) ≡ k = cc in
    subst (λ x. is_lawful_key schema x ≡ true) same (both_true _ _ fits (ap (λ n. fits_sort n None) is_sort))
with_lawful schema row (Some sort) p k is_sort fits read = sort_lawful schema sort p _ (part_of 1024 sort row) k
    is_sort refl fits read

partition_lawful : (schema : KeySchema) (row : List (List ℕ × AttrValue)) (o : Option AttrValue) (found : Option Val)
    (k : Val × Option Val) → lawful 2048 schema.partition.kind o ≡ found → partition_found schema row found ≡ Ok k →
    is_lawful_key schema k ≡ true
partition_lawful schema row o None k is read = absurd (cc)
partition_lawful schema row o (Some p) k is read =
    with_lawful schema row schema.sort p k refl (fits_found 2048 schema.partition.kind o p is) read

pub read_key_lawful : (schema : KeySchema) (row : List (List ℕ × AttrValue)) (k : Val × Option Val) →
    row_key schema row ≡ Ok k → is_lawful_key schema k ≡ true
read_key_lawful schema row k read = partition_lawful schema row _ (part_of 2048 schema.partition row) k refl read
