-- What a table in memory holds (this project's own).
use Rattle.std.specs.Prelude.{◌≡◌, ℕ, Bool, true, List, [], ◌∷◌, Option, None, Some, Ok}
use Rattle.std.specs.Ordering.{is_lt}
use Rattle.dbe_num.specs.Decimal.{IsNormal}
use Rattle.dbe_values.specs.Val as v
use Rattle.dbe_values.specs.Val.{Val}
use Rattle.dbe_values.specs.declared.key.KeySchema.{KeySchema}
use Rattle.dbe_values.specs.declared.key.KeyValue.{KeyValue}
use Rattle.dbe_values.specs.Keys.{key_order, row_key}
use Rattle.dbe_values.specs.KeyValues.{key_view}
use Rattle.dbe_table.specs.Rows.{Row}

-- a table in memory, as contracts see it
pub record TableInMemory : Type 0 where
  pub coming : List Row  -- the rows that it was made with, and none once they are the table's
  pub begun : Option KeySchema  -- the schema of the `begin` that was Ok
  pub rows : List Row  -- the rows, in key order
  pub calls : ℕ  -- how many calls were made
  pub fails : List ℕ  -- which calls fail, from 1
  pub given : ℕ  -- how many rows were handed out
  pub faults : ℕ  -- how many calls have failed

-- rows under their keys, as contracts see them
pub record RowsByKey : Type 0 where
  pub schema : KeySchema  -- of which attributes the keys are
  pub rows : List Row  -- the rows, in key order

-- the schema of rows under their keys, where there are such
abbrev pub schema_held : Option RowsByKey → Option KeySchema
schema_held None = None
schema_held (Some held) = Some held.schema

-- rows under their keys, and none where there are no such
abbrev pub rows_held : Option RowsByKey → List Row
rows_held None = []
rows_held (Some held) = held.rows

-- a value that is a number stands in its normal form
abbrev pub IsNormalValue : Val → Type 0
IsNormalValue (v.number x) = IsNormal x
IsNormalValue _ = Unit {0}

-- a sort value that is a number stands in its normal form
abbrev pub IsNormalSort : Option Val → Type 0
IsNormalSort None = Unit {0}
IsNormalSort (Some s) = IsNormalValue s

-- the numbers of a key stand in their normal form
abbrev pub IsNormalKey : Val × Option Val → Type 0
IsNormalKey k = IsNormalValue k.0 × IsNormalSort k.1

-- each row stands under its key
abbrev pub AreKeyed : KeySchema → List (KeyValue × Row) → Type 0
AreKeyed schema [] = Unit {0}
AreKeyed schema (e ∷ es) = ((row_key schema e.1 ≡ Ok (key_view e.0)) × IsNormalKey (key_view e.0)) × AreKeyed schema es

-- whether a key comes behind the last one, where there is one
abbrev pub is_next : Option (Val × Option Val) → Val × Option Val → Bool
is_next None key = true
is_next (Some last) key = is_lt (key_order last key)
