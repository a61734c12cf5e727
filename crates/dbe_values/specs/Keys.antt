-- The key of a row, and the order of rows (Amazon DynamoDB Developer Guide, "Service, account, and table quotas").
use Rattle.std.specs.Prelude.{ℕ, ℤ, pos, ◌&&◌, Bool, true, false, List, [], length, nat_lt, nat_le, Option, Some}
use Rattle.std.specs.Prelude.{None, is_ok, Result, Ok, Err, if◌then◌else◌}
use Rattle.std.specs.Ordering.{nat_cmp, int_cmp, then_cmp, on}
use Rattle.std.specs.Option.{option_cmp}
use Rattle.std.specs.Result.{result_err}
use Rattle.std.specs.Cmp.Lexicographic.{slice_cmp}
use Rattle.dbe_num.specs.Decimal.{units}
use Rattle.std.specs.declared.cmp.Ordering.{Ordering}
use Rattle.dbe_values.specs.Val as v
use Rattle.dbe_values.specs.Val.{Val}
use Rattle.dbe_values.specs.View.{view}
use Rattle.dbe_values.specs.declared.value.AttrValue.{AttrValue}
use Rattle.dbe_values.specs.declared.key.KeyKind.{KeyKind}
use Rattle.dbe_values.specs.declared.key.KeyKind.TheVariants as kind
use Rattle.dbe_values.specs.declared.key.KeyName.{KeyName}
use Rattle.dbe_values.specs.declared.key.KeySchema.{KeySchema}
use Rattle.dbe_values.specs.Attributes.{value_at}

-- at least one byte and at most so many
abbrev pub has_length : ℕ → List ℕ → Bool
has_length most bytes = nat_lt 0 (length bytes) && nat_le (length bytes) most

-- a value that a key of a type may have, of at most so many bytes; a number has at most 170
abbrev pub fits_key : ℕ → KeyKind → Val → Bool
fits_key most kind.S (v.text x) = has_length most x
fits_key most kind.N (v.number x) = true
fits_key most kind.B (v.binary x) = has_length most x
fits_key most _ _ = false

-- the value of a key attribute, where it is lawful
abbrev pub lawful : ℕ → KeyKind → Option AttrValue → Option Val
lawful most kind None = None
lawful most kind (Some value) = if fits_key most kind (view value) then Some (view value) else None

abbrev pub part_of : ℕ → KeyName → List (List ℕ × AttrValue) → Option Val
part_of most part row = lawful most part.kind (value_at part.name row)

abbrev pub sort_found : Val → List ℕ → Option Val → Result (Val × Option Val) (List ℕ)
sort_found p name None = Err name
sort_found p name (Some s) = Ok (p, Some s)

-- the values of a key: the partition, and the sort where there is one
abbrev pub with_sort : Val → List (List ℕ × AttrValue) → Option KeyName → Result (Val × Option Val) (List ℕ)
with_sort p row None = Ok (p, None)
with_sort p row (Some sort) = sort_found p sort.name (part_of 1024 sort row)

abbrev pub partition_found : KeySchema → List (List ℕ × AttrValue) → Option Val → Result (Val × Option Val) (List ℕ)
partition_found schema row None = Err schema.partition.name
partition_found schema row (Some p) = with_sort p row schema.sort

-- the key of a row, or the first key name whose attribute is not lawful
abbrev pub row_key : KeySchema → List (List ℕ × AttrValue) → Result (Val × Option Val) (List ℕ)
row_key schema row = partition_found schema row (part_of 2048 schema.partition row)

-- the first key name whose attribute is not lawful; none where the row has a lawful key
abbrev pub key_fault : KeySchema → List (List ℕ × AttrValue) → Option (List ℕ)
key_fault schema row = result_err (row_key schema row)

abbrev pub has_key : KeySchema → List (List ℕ × AttrValue) → Bool
has_key schema row = is_ok (row_key schema row)

-- a type's place among the types: those of keys first, and each other one behind them
abbrev pub type_rank : Val → ℕ
type_rank (v.text x) = 0
type_rank (v.number x) = 1
type_rank (v.binary x) = 2
type_rank (v.boolean x) = 3
type_rank v.nothing = 4
type_rank (v.texts xs) = 5
type_rank (v.numbers xs) = 6
type_rank (v.binaries xs) = 7
type_rank (v.list xs) = 8
type_rank (v.map es) = 9

-- the bytes of a text or a binary
abbrev pub key_bytes : Val → List ℕ
key_bytes (v.text x) = x
key_bytes (v.binary x) = x
key_bytes _ = []

-- the value of a number
abbrev pub key_units : Val → ℤ
key_units (v.number x) = units x
key_units _ = pos 0

-- Values of a key are ordered by type, then texts and binaries by their bytes and numbers by their values.
abbrev pub value_order : Val → Val → Ordering
value_order = then_cmp (on type_rank nat_cmp) (then_cmp (on key_bytes (slice_cmp nat_cmp)) (on key_units int_cmp))

-- partition first, then sort; a key without a sort value comes before those with one
abbrev pub key_order : Val × Option Val → Val × Option Val → Ordering
key_order = then_cmp (on (λ k. k.0) value_order) (on (λ k. k.1) (option_cmp value_order))

-- the key of a row; those without one have the same
abbrev pub key_or_none : Result (Val × Option Val) (List ℕ) → Val × Option Val
key_or_none (Ok k) = k
key_or_none (Err name) = (v.nothing, None)

abbrev pub key_of : KeySchema → List (List ℕ × AttrValue) → Val × Option Val
key_of schema row = key_or_none (row_key schema row)

-- the order of rows by their keys
abbrev pub row_order : KeySchema → List (List ℕ × AttrValue) → List (List ℕ × AttrValue) → Ordering
row_order schema = on (key_of schema) key_order

-- a key that a row of the schema may have
abbrev pub fits_sort : Option KeyName → Option Val → Bool
fits_sort None None = true
fits_sort None (Some s) = false
fits_sort (Some name) None = false
fits_sort (Some name) (Some s) = fits_key 1024 name.kind s

abbrev pub is_lawful_key : KeySchema → Val × Option Val → Bool
is_lawful_key schema k = fits_key 2048 schema.partition.kind k.0 && fits_sort schema.sort k.1
