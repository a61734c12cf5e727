-- The step of reading one argument (this project's own).
use Rattle.std.specs.Prelude.{◌≡◌, ◌≤◌, ℕ, List, length, Option, Some, None, String, string_bytes, slice_get}
use Rattle.std.specs.declared.alloc.Global.{Global}
use Rattle.dbe_serve.specs.Arguments.{IsReadable}

-- the argument of a place was read, or there is none from there on
abbrev pub IsReadAt : List (List ℕ) → ℕ → Option (String Global) → Type 0
IsReadAt told place None = length told ≤ place
IsReadAt told place (Some read) = (slice_get told place ≡ Some (string_bytes read)) × IsReadable (string_bytes read)
