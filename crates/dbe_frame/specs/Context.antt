-- The full encryption context, this project's own. Numbers are big-endian.
use Rattle.std.specs.Prelude.{◌≡◌, ℕ, ◌≤◌, Bool, List, [], ◌∷◌, ◌++◌, length, codes, IfSome, Option, Some}
use Rattle.std.specs.List.{flat_map}
use Rattle.std.specs.Ordering.{nat_cmp, is_lt}
use Rattle.std.specs.Cmp.Lexicographic.{slice_cmp}
use Rattle.std.specs.Int.{w32, to_be_bytes}
use Rattle.dbe_values.specs.Val.{Val}
use Rattle.dbe_values.specs.declared.key.KeyName.{KeyName}
use Rattle.dbe_values.specs.declared.key.KeySchema.{KeySchema}
use Rattle.dbe_canon.specs.Canon.{type_id, canon_of}
use Rattle.dbe_frame.specs.Header.{short_number}
use Rattle.dbe_frame.specs.Sizes.{most_named}
use Rattle.dbe_frame.specs.Sorted.{in_order}

-- bytes behind their length of two bytes
abbrev pub short_string : List ℕ → List ℕ
short_string bytes = short_number (length bytes) ++ bytes

abbrev pub pair_text : List ℕ × List ℕ → List ℕ
pair_text pair = short_string pair.0 ++ short_string pair.1

-- how many pairs there are, in four bytes, and the pairs
abbrev pub pairs_text : List (List ℕ × List ℕ) → List ℕ
pairs_text pairs = to_be_bytes w32 (length pairs) ++ flat_map pair_text pairs

-- a key attribute: its name behind a prefix, and the type and canonical bytes of its value
abbrev pub attribute_pair : List ℕ → Val → List ℕ × List ℕ
attribute_pair name value = (codes "aws-crypto-attr." ++ name, type_id value ++ canon_of value)

-- by the bytes of their keys
abbrev pub pair_below : List ℕ × List ℕ → List ℕ × List ℕ → Bool
pair_below x y = is_lt (slice_cmp nat_cmp x.0 y.0)

-- the pairs of the sort key, where there is one; a valid key has a sort value exactly where the schema has a sort key
abbrev pub sort_pairs : Option KeyName → Option Val → List (List ℕ × List ℕ)
sort_pairs (Some sort) (Some value) = attribute_pair sort.name value ∷ (codes "aws-crypto-sort-name", sort.name) ∷ []
sort_pairs _ _ = []

-- the pairs of a table, its schema and a key
abbrev pub key_pairs : KeySchema → List ℕ → Val × Option Val → List (List ℕ × List ℕ)
key_pairs schema table key =
    attribute_pair schema.partition.name key.0
    ∷ (codes "aws-crypto-partition-name", schema.partition.name)
    ∷ (codes "aws-crypto-table-name", table)
    ∷ sort_pairs schema.sort key.1

-- the computed pairs: those pairs in order of their keys
abbrev pub computed_pairs : KeySchema → List ℕ → Val × Option Val → List (List ℕ × List ℕ)
computed_pairs schema table key = in_order pair_below (key_pairs schema table key)

-- the computed pairs, and behind them the stored ones
unfoldable pub full_context : KeySchema → List ℕ → Val × Option Val → List (List ℕ × List ℕ) → List ℕ
full_context schema table key stored = pairs_text (computed_pairs schema table key) ++ pairs_text stored

-- the partition and sort keys have different names
abbrev pub HasTwoNames : KeySchema → Type 0
HasTwoNames schema = IfSome schema.sort (λ sort. sort.name ≡ schema.partition.name → ⊥)

-- each name has at most 255 bytes
pub record HasShortNames (schema : KeySchema) (table : List ℕ) : Type 0 where
  pub table_name : length table ≤ most_named
  pub partition : length schema.partition.name ≤ most_named
  pub sort : IfSome schema.sort (λ sort. length sort.name ≤ most_named)
