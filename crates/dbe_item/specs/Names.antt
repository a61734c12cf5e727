-- The attributes of a sealed row by their names (this project's own).
use Rattle.std.specs.Prelude.{ℕ, ◌==◌, ◌&&◌, not, Bool, List, [], ◌∷◌, codes, bytes_eq, filter, if◌then◌else◌}
use Rattle.std.specs.List.{position_or_len}
use Rattle.dbe_values.specs.declared.value.AttrValue.{AttrValue}
use Rattle.dbe_config.specs.Setting.{Setting}
use Rattle.dbe_config.specs.Actions.{action_for, is_encrypted, is_reserved}
use Rattle.dbe_frame.specs.Sizes.{encrypted, signed_only}

-- where a row keeps its header and its footer
abbrev pub head_name : List ℕ
head_name = codes "aws_dbe_head"

abbrev pub foot_name : List ℕ
foot_name = codes "aws_dbe_foot"

-- an attribute that dbe keeps for itself, header and footer apart
abbrev pub is_beacon_name : List ℕ → Bool
is_beacon_name name = is_reserved name && not (bytes_eq name head_name) && not (bytes_eq name foot_name)

-- the configuration encrypts the attribute
abbrev pub is_encrypted_name : Setting → List ℕ → Bool
is_encrypted_name c name = is_encrypted (action_for c.schema c.actions c.unsigned_prefix name)

-- the legend byte of a signed attribute
abbrev pub legend_byte : Setting → List ℕ → ℕ
legend_byte c name = if is_encrypted_name c name then encrypted else signed_only

-- the names whose legend byte is `e`
abbrev pub marked : List (List ℕ) → List ℕ → List (List ℕ)
marked (name ∷ names) (b ∷ legend) = if b == encrypted then name ∷ marked names legend else marked names legend
marked _ _ = []

-- the number of a name among names, from 0
abbrev pub number_of : List ℕ → List (List ℕ) → ℕ
number_of name names = position_or_len (bytes_eq name) names

-- the row without the names that dbe keeps for itself
abbrev pub strip : List (List ℕ × AttrValue) → List (List ℕ × AttrValue)
strip row = filter (λ a. not (is_reserved a.0)) row
