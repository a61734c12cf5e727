-- The JSON values of bytes (RFC 8259).
use Rattle.std.specs.Prelude.{ℕ, List, Option, None, if◌then◌else◌}
use Rattle.std.specs.Str.{is_utf8}
use Rattle.serde_json.specs.Data.{Data, null, boolean, number, string, array, object}
use Rattle.serde_json.specs.Read.{read}
use Rattle.serde_json.specs.Events.{members_len}

-- the JSON value that bytes are, or none where they are no text or no JSON
abbrev pub json_of : List ℕ → Option Data
json_of bytes = if is_utf8 bytes then read bytes else None

-- how many members an object has; all else has none
abbrev pub size_of : Data → ℕ
size_of null = 0
size_of (boolean b) = 0
size_of (number n) = 0
size_of (string s) = 0
size_of (array ds) = 0
size_of (object ms) = members_len ms
