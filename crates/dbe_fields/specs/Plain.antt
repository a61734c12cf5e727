-- The value of a name over an item (this project's own).
use Rattle.std.specs.Prelude.{ℕ, ◌||◌, Bool, List, Option, Some, None, option_map, if◌then◌else◌}
use Rattle.dbe_values.specs.declared.value.AttrValue.{AttrValue, S}
use Rattle.dbe_config.specs.Setting.{Setting}
use Rattle.dbe_config.specs.Rules.{is_among, virtual_names, compound_names}
use Rattle.dbe_config.specs.declared.compound.Compound.{Compound}
use Rattle.dbe_fields.specs.Virtuals.{field_value}
use Rattle.dbe_fields.specs.Compounds.{compound_text, compound_named}

-- a name of a compound or of a virtual field
abbrev pub is_computed : Setting → List ℕ → Bool
is_computed s name = is_among name (compound_names s.compounds) || is_among name (virtual_names s.virtuals)

abbrev pub compound_or_field : Option Compound → Setting → List ℕ → List (List ℕ × AttrValue) → Option AttrValue
compound_or_field None s name row = field_value s name row
compound_or_field (Some c) s name row = option_map S (compound_text s row c)

-- the text of a compound, else the value of a virtual field, else that of an attribute
unfoldable pub plain : Setting → List ℕ → List (List ℕ × AttrValue) → Option AttrValue
plain s name row = compound_or_field (compound_named s name) s name row

-- the value of a name where it is one of these names
abbrev pub plain_among : List (List ℕ) → Setting → List ℕ → List (List ℕ × AttrValue) → Option AttrValue
plain_among names s name row = if is_among name names then plain s name row else None
