-- Used parts of compounds whose text has the split character (this project's own).
use Rattle.std.specs.Prelude.{ℕ, List, [], find, filter_map, slice_get, Option, option_map, unwrap_or}
use Rattle.dbe_values.specs.declared.value.AttrValue.{AttrValue}
use Rattle.dbe_config.specs.Setting.{Setting}
use Rattle.dbe_config.specs.Rules.{has_byte}
use Rattle.dbe_config.specs.declared.compound.Compound.{Compound}
use Rattle.dbe_fields.specs.Compounds.{used_parts}

-- the names of a compound and of its first such part, in the order of the constructor that is used
abbrev pub split_in : Setting → List (List ℕ × AttrValue) → Compound → Option (List ℕ × List ℕ)
split_in s row c =
    option_map (λ u. (c.name, u.0.name)) (find (λ u. has_byte c.split u.1) (unwrap_or (used_parts s row c) []))

-- those of the first compound that has one
unfoldable pub split_at : Setting → List (List ℕ × AttrValue) → Option (List ℕ × List ℕ)
split_at s row = slice_get (filter_map (split_in s row) s.compounds) 0
