-- Virtual fields (this project's own).
use Rattle.std.specs.Prelude.{ℕ, List, [], ◌∷◌, ◌++◌, map, find, bytes_eq, chars, encode_utf8_all, Option, Some, None}
use Rattle.std.specs.Prelude.{option_and_then, option_map}
use Rattle.dbe_values.specs.Attributes.{value_at}
use Rattle.dbe_values.specs.declared.value.AttrValue.{AttrValue, S}
use Rattle.dbe_config.specs.Setting.{Setting}
use Rattle.dbe_config.specs.declared.virtual_field.Virtual.{Virtual}
use Rattle.dbe_config.specs.declared.virtual_field.VirtualPart.{VirtualPart}
use Rattle.dbe_fields.specs.Texts.{value_text}
use Rattle.dbe_fields.specs.Steps.{through}

-- the text of a part's attribute after the part's steps
abbrev pub part_chars : List (List ℕ × AttrValue) → VirtualPart → Option (List ℕ)
part_chars row p = option_and_then (λ text. through p.steps (chars text)) (option_and_then value_text
    (value_at p.from row))

-- texts joined, where all are there
abbrev pub joined : List (Option (List ℕ)) → Option (List ℕ)
joined [] = Some []
joined (None ∷ others) = None
joined (Some cs ∷ others) = option_map (λ ds. cs ++ ds) (joined others)

-- the parts' texts joined
abbrev pub virtual_text : List (List ℕ × AttrValue) → List VirtualPart → Option (List ℕ)
virtual_text row parts = option_map encode_utf8_all (joined (map (part_chars row) parts))

abbrev pub virtual_named : Setting → List ℕ → Option Virtual
virtual_named s name = find (λ v. bytes_eq name v.name) s.virtuals

abbrev pub virtual_or_attribute : Option Virtual → List ℕ → List (List ℕ × AttrValue) → Option AttrValue
virtual_or_attribute None name row = value_at name row
virtual_or_attribute (Some v) name row = option_map S (virtual_text row v.parts)

-- the value of a virtual field, else of an attribute
abbrev pub field_value : Setting → List ℕ → List (List ℕ × AttrValue) → Option AttrValue
field_value s name row = virtual_or_attribute (virtual_named s name) name row
