-- The attributes of an item: names and values, in order of names.
use Rattle.std.specs.Prelude.{ℕ, Bool, ◌&&◌, List, [], ◌∷◌, length, nat_lt, nat_le, Option, Some, None, if◌then◌else◌}
use Rattle.std.specs.Str.{bytes_eq}
use Rattle.std.specs.Ordering.{nat_cmp, match_ordering}
use Rattle.std.specs.Cmp.Lexicographic.{slice_cmp}
use Rattle.dbe_values.specs.Val.{same}
use Rattle.dbe_values.specs.View.{view}
use Rattle.dbe_values.specs.declared.value.AttrValue.{AttrValue}

-- a name has 1 to 255 bytes
abbrev pub is_name : List ℕ → Bool
is_name name = nat_lt 0 (length name) && nat_le (length name) 255

-- the value of a name
abbrev pub value_at : List ℕ → List (List ℕ × AttrValue) → Option AttrValue
value_at name [] = None
value_at name (a ∷ others) = if bytes_eq a.0 name then Some a.1 else value_at name others

-- the attributes with a value at a name, in place of an older one
abbrev pub put_at : List ℕ → AttrValue → List (List ℕ × AttrValue) → List (List ℕ × AttrValue)
put_at name value [] = (name, value) ∷ []
put_at name value (a ∷ others) = match_ordering (slice_cmp nat_cmp name a.0) ((name, value) ∷ a ∷ others) ((
  name,
  value,
) ∷ others) (a ∷ put_at name value others)

-- the attributes without a name
abbrev pub without : List ℕ → List (List ℕ × AttrValue) → List (List ℕ × AttrValue)
without name [] = []
without name (a ∷ others) = if bytes_eq a.0 name then others else a ∷ without name others

-- whether two values are the same, by type and content
abbrev pub equal : AttrValue → AttrValue → Bool
equal a b = same (view a) (view b)
