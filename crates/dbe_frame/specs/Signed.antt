-- The signed names of a row, this project's own.
use Rattle.std.specs.Prelude.{ℕ, Bool, not, List, filter}
use Rattle.std.specs.Ordering.{is_lt}
use Rattle.dbe_values.specs.Lawful.{names_of}
use Rattle.dbe_values.specs.declared.value.AttrValue.{AttrValue}
use Rattle.dbe_canon.specs.Path.{name_cmp}
use Rattle.dbe_config.specs.Actions.{is_unsigned}
use Rattle.dbe_config.specs.Setting.{Setting}
use Rattle.dbe_frame.specs.Sorted.{in_order}

-- canonical order: shorter names first, and those of one length by their bytes
abbrev pub name_below : List ℕ → List ℕ → Bool
name_below x y = is_lt (name_cmp x y)

-- the names of a row that are not unsigned
abbrev pub signed_among : Setting → List (List ℕ × AttrValue) → List (List ℕ)
signed_among s row = filter (λ name. not (is_unsigned s.schema s.actions s.unsigned_prefix name)) (names_of row)

-- the signed names in canonical order
abbrev pub signed_names : Setting → List (List ℕ × AttrValue) → List (List ℕ)
signed_names s row = in_order name_below (signed_among s row)
