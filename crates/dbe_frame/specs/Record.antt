-- The record text, which the recipients sign, this project's own.
use Rattle.std.specs.Prelude.{ℕ, ◌==◌, List, [], ◌∷◌, ◌++◌, codes, Option, Some, None, if◌then◌else◌}
use Rattle.dbe_values.specs.Attributes.{value_at}
use Rattle.dbe_values.specs.View.{view}
use Rattle.dbe_values.specs.declared.value.AttrValue.{AttrValue}
use Rattle.dbe_canon.specs.Canon.{long_string, type_id, canon_of}
use Rattle.dbe_canon.specs.Path.{path_of}
use Rattle.dbe_config.specs.Setting.{Setting}
use Rattle.dbe_frame.specs.Signed.{signed_names}
use Rattle.dbe_frame.specs.Sizes.{encrypted}

-- what a legend byte says of an attribute: `e` is encrypted
abbrev pub legend_word : ℕ → List ℕ
legend_word b = if b == encrypted then codes "ENCRYPTED" else codes "PLAINTEXT"

-- the type and the canonical bytes of the stored value
abbrev pub stored_bytes : Option AttrValue → List ℕ
stored_bytes None = []
stored_bytes (Some value) = type_id (view value) ++ canon_of (view value)

-- an attribute: its path, the word of its legend byte, and its stored value
abbrev pub entry_text : List ℕ → List (List ℕ × AttrValue) → List ℕ → ℕ → List ℕ
entry_text table row name b = long_string (path_of table name) ++ legend_word b ++ long_string
    (stored_bytes (value_at name row))

-- the attributes of names, with a legend byte for each
unfoldable pub entries_text : List ℕ → List (List ℕ × AttrValue) → List (List ℕ) → List ℕ → List ℕ
entries_text table row (name ∷ names) (b ∷ legend) = entry_text table row name b ++ entries_text table row names legend
entries_text table row _ _ = []

-- the whole header, and then the signed attributes
abbrev pub record_text : List ℕ → Setting → List (List ℕ × AttrValue) → List ℕ → List ℕ
record_text header s row legend = header ++ entries_text s.table row (signed_names s row) legend
