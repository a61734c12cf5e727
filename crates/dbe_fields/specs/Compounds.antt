-- The texts of compounds (this project's own).
use Rattle.std.specs.Prelude.{ℕ, ◌||◌, not, Bool, List, ◌++◌, map, find, filter_map, slice_get, bytes_eq, Option}
use Rattle.std.specs.Prelude.{option_and_then, option_map, is_some, if◌then◌else◌}
use Rattle.std.specs.Option.{option_zip, option_flatten}
use Rattle.std.specs.List.{list_all, join_with_byte}
use Rattle.dbe_values.specs.Attributes.{value_at}
use Rattle.dbe_values.specs.declared.value.AttrValue.{AttrValue}
use Rattle.dbe_config.specs.Setting.{Setting}
use Rattle.dbe_config.specs.declared.compound.Compound.{Compound}
use Rattle.dbe_config.specs.declared.compound.Part.{Part}
use Rattle.dbe_config.specs.declared.constructor.Constructor.{Constructor}
use Rattle.dbe_config.specs.declared.constructor.ConstructorPart.{ConstructorPart}
use Rattle.dbe_fields.specs.Texts.{value_text}
use Rattle.dbe_fields.specs.Virtuals.{field_value}

-- The text of a part's source: the attribute or virtual field of the beacon for an encrypted part, an attribute for
-- a signed one. A part whose source has a text is present.
abbrev pub part_text : Setting → List (List ℕ × AttrValue) → Part → Option (List ℕ)
part_text s row p = option_and_then value_text (if p.encrypted then field_value s p.from row else value_at p.from row)

abbrev pub part_texts : Setting → List (List ℕ × AttrValue) → Compound → List (Option (List ℕ))
part_texts s row c = map (part_text s row) c.parts

-- the part that an entry of a constructor names, with its text, where it is present
abbrev pub present : List Part → List (Option (List ℕ)) → ConstructorPart → Option (Part × List ℕ)
present parts texts e = option_zip (slice_get parts e.part) (option_flatten (slice_get texts e.part))

abbrev pub is_satisfied : List Part → List (Option (List ℕ)) → ConstructorPart → Bool
is_satisfied parts texts e = not e.required || is_some (present parts texts e)

-- all required parts are present
abbrev pub is_usable : List Part → List (Option (List ℕ)) → Constructor → Bool
is_usable parts texts k = list_all (is_satisfied parts texts) k.parts

-- the present parts of the first usable constructor, in its order
abbrev pub used_parts : Setting → List (List ℕ × AttrValue) → Compound → Option (List (Part × List ℕ))
used_parts s row c = option_map (λ k. filter_map (present c.parts (part_texts s row c)) k.parts)
    (find (is_usable c.parts (part_texts s row c)) c.constructors)

-- prefix and text of each part, joined by the split character
abbrev pub joined_pieces : ℕ → List (Part × List ℕ) → List ℕ
joined_pieces split used = join_with_byte split (map (λ u. u.0.prefix ++ u.1) used)

abbrev pub compound_text : Setting → List (List ℕ × AttrValue) → Compound → Option (List ℕ)
compound_text s row c = option_map (joined_pieces c.split) (used_parts s row c)

abbrev pub compound_named : Setting → List ℕ → Option Compound
compound_named s name = find (λ c. bytes_eq name c.name) s.compounds
