-- The rows of a table, in key order (this project's own).
use Rattle.std.specs.Prelude.{◌≡◌, ℕ, ◌+◌, ◌^◌, ◌-◌, min, max, true, List, [], ◌∷◌, filter, Option, Some, None}
use Rattle.std.specs.Prelude.{if◌then◌else◌}
use Rattle.std.specs.List.{All}
use Rattle.std.specs.List.Sorted.{IsStrictlySortedBy}
use Rattle.std.specs.Ordering.{match_ordering, is_eq}
use Rattle.dbe_values.specs.Val.{Val}
use Rattle.dbe_values.specs.declared.value.AttrValue.{AttrValue}
use Rattle.dbe_values.specs.declared.key.KeySchema.{KeySchema}
use Rattle.dbe_values.specs.Keys.{has_key, key_of, key_order, row_order}
use Rattle.dbe_cond.specs.declared.wanted.Wanted.{Wanted}
use Rattle.dbe_cond.specs.Wants.{wants}

-- a row, as its attributes
abbrev pub Row : Type 0
Row = List (List ℕ × AttrValue)

-- rows with lawful keys, each key once, in key order
pub record IsTable (schema : KeySchema) (rows : List Row) : Type 0 where
  pub keys : All (λ row. has_key schema row ≡ true) rows
  pub order : IsStrictlySortedBy (row_order schema) rows

-- the row in place of the one of its key, else where its key belongs
abbrev pub put_row : KeySchema → Row → List Row → List Row
put_row schema row [] = row ∷ []
put_row schema row (other ∷ others) = match_ordering (row_order schema row other) (row ∷ other ∷ others)
    (row ∷ others) (other ∷ put_row schema row others)

-- the row that has a key
abbrev pub row_at : KeySchema → Val × Option Val → List Row → Option Row
row_at schema key [] = None
row_at schema key (row ∷ rows) = if is_eq (key_order key (key_of schema row)) then Some row else row_at schema key rows

-- the rows that are wanted
abbrev pub wanted_rows : Wanted → List Row → List Row
wanted_rows wanted rows = filter (wants wanted) rows

-- a count after a rise by n; it stays at its greatest value
abbrev pub risen : ℕ → ℕ → ℕ
risen count n = max count (min (count + n) (2 ^ 64 - 1))

-- how many rows an answer holds that is a row or none
abbrev pub found_count : {A : Type 0} → Option A → ℕ
found_count None = 0
found_count (Some a) = 1
