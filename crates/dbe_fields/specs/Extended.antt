-- An item with the values of virtual fields and compounds (this project's own).
use Rattle.std.specs.Prelude.{ℕ, not, List, ◌++◌, filter, fold, Option, Some, None}
use Rattle.dbe_values.specs.Attributes.{put_at}
use Rattle.dbe_values.specs.declared.value.AttrValue.{AttrValue}
use Rattle.dbe_config.specs.Setting.{Setting}
use Rattle.dbe_config.specs.Rules.{virtual_names, compound_names}
use Rattle.dbe_fields.specs.Plain.{plain, is_computed}

-- a value at a name, where there is one
abbrev pub with_value : List ℕ → Option AttrValue → List (List ℕ × AttrValue) → List (List ℕ × AttrValue)
with_value name None row = row
with_value name (Some value) row = put_at name value row

abbrev pub computed_names : Setting → List (List ℕ)
computed_names s = compound_names s.compounds ++ virtual_names s.virtuals

-- the attributes whose names are not computed
abbrev pub uncomputed : Setting → List (List ℕ × AttrValue) → List (List ℕ × AttrValue)
uncomputed s row = filter (λ a. not (is_computed s a.0)) row

-- these, with the values of the computed names
unfoldable pub extended : Setting → List (List ℕ × AttrValue) → List (List ℕ × AttrValue)
extended s row = fold (λ r name. with_value name (plain s name row) r) (uncomputed s row) (computed_names s)
