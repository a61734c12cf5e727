-- The canonical bytes of a value: one spelling for each value, this project's own. Numbers are big-endian.
use Rattle.std.specs.Prelude.{◌≡◌, ℕ, ◌+◌, ◌<◌, ◌^◌, List, [], ◌∷◌, ◌++◌, length, Bool, true, false}
use Rattle.std.specs.List.{AllByRecursion}
use Rattle.std.specs.Int.{w64, to_be_bytes}
use Rattle.dbe_num.specs.NormalText.{normal_text}
use Rattle.dbe_values.specs.Val as v
use Rattle.dbe_values.specs.Val.{Val, Vals, Entries}
use Rattle.dbe_values.specs.Lawful.{IsLawful}

-- the 8 bytes of a count or a length
unfoldable pub count_bytes : ℕ → List ℕ
count_bytes n = to_be_bytes w64 n

-- bytes behind their length
abbrev pub long_string : List ℕ → List ℕ
long_string bytes = count_bytes (length bytes) ++ bytes

abbrev pub long_strings : List (List ℕ) → List ℕ
long_strings [] = []
long_strings (x ∷ xs) = long_string x ++ long_strings xs

-- the two bytes that name the type
abbrev pub type_id : Val → List ℕ
type_id v.nothing = 0 ∷ 0 ∷ []
type_id (v.text x) = 0 ∷ 1 ∷ []
type_id (v.number x) = 0 ∷ 2 ∷ []
type_id (v.boolean x) = 0 ∷ 4 ∷ []
type_id (v.binary x) = 255 ∷ 255 ∷ []
type_id (v.texts xs) = 1 ∷ 1 ∷ []
type_id (v.numbers xs) = 1 ∷ 2 ∷ []
type_id (v.binaries xs) = 1 ∷ 255 ∷ []
type_id (v.map es) = 2 ∷ 0 ∷ []
type_id (v.list xs) = 3 ∷ 0 ∷ []

-- how many values and entries there are
abbrev pub vals_count : Vals → ℕ
vals_count v.no_vals = 0
vals_count (v.val x xs) = vals_count xs + 1

abbrev pub entries_count : Entries → ℕ
entries_count v.no_entries = 0
entries_count (v.entry name x es) = entries_count es + 1

abbrev pub boolean_byte : Bool → ℕ
boolean_byte true = 1
boolean_byte false = 0

-- a text and a binary as they are, a number by its normal text; of a set, a list or a map the count, and then each
-- element behind its length, in a list behind its type too, and in a map behind its name and type
unfoldable mutual
  pub canon_of : Val → List ℕ
  canon_of v.nothing = []
  canon_of (v.text x) = x
  canon_of (v.number x) = normal_text x
  canon_of (v.boolean b) = boolean_byte b ∷ []
  canon_of (v.binary x) = x
  canon_of (v.texts xs) = count_bytes (length xs) ++ long_strings xs
  canon_of (v.numbers xs) = count_bytes (length xs) ++ long_strings xs
  canon_of (v.binaries xs) = count_bytes (length xs) ++ long_strings xs
  canon_of (v.list xs) = count_bytes (vals_count xs) ++ vals_bytes xs
  canon_of (v.map es) = count_bytes (entries_count es) ++ entries_bytes es

  pub vals_bytes : Vals → List ℕ
  vals_bytes v.no_vals = []
  vals_bytes (v.val x xs) = type_id x ++ (long_string (canon_of x) ++ vals_bytes xs)

  pub entries_bytes : Entries → List ℕ
  entries_bytes v.no_entries = []
  entries_bytes (v.entry name x es) = long_string name ++ (type_id x ++ (long_string (canon_of x) ++ entries_bytes es))

-- a count or a length that 8 bytes can hold
abbrev pub FitsCount : ℕ → Type 0
FitsCount n = n < 2 ^ 64

abbrev pub IsShort : List ℕ → Type 0
IsShort bytes = FitsCount (length bytes)

abbrev pub IsShortSet : List (List ℕ) → Type 0
IsShortSet xs = FitsCount (length xs) × AllByRecursion IsShort xs

-- each count and length inside of the value fits its 8 bytes
abbrev mutual
  pub HasShortParts : Val → Type 0
  HasShortParts v.nothing = Unit {0}
  HasShortParts (v.text x) = Unit {0}
  HasShortParts (v.number x) = Unit {0}
  HasShortParts (v.boolean b) = Unit {0}
  HasShortParts (v.binary x) = Unit {0}
  HasShortParts (v.texts xs) = IsShortSet xs
  HasShortParts (v.numbers xs) = IsShortSet xs
  HasShortParts (v.binaries xs) = IsShortSet xs
  HasShortParts (v.list xs) = FitsCount (vals_count xs) × HaveShortParts xs
  HasShortParts (v.map es) = FitsCount (entries_count es) × EntriesHaveShortParts es

  pub HaveShortParts : Vals → Type 0
  HaveShortParts v.no_vals = Unit {0}
  HaveShortParts (v.val x xs) = IsShort (canon_of x) × HasShortParts x × HaveShortParts xs

  pub EntriesHaveShortParts : Entries → Type 0
  EntriesHaveShortParts v.no_entries = Unit {0}
  EntriesHaveShortParts (v.entry name x es) = IsShort name × IsShort (canon_of x) × HasShortParts x ×
      EntriesHaveShortParts es

-- The value with this type and these canonical bytes: sets, names of maps and numbers are in their one order and
-- form, texts are UTF-8, and lists and maps nest to at most `left` levels.
pub record IsCanon (left : ℕ) (value : Val) (id bytes : List ℕ) : Type 0 where
  pub lawful : IsLawful left value
  pub short : HasShortParts value
  pub same_id : id ≡ type_id value
  pub same_bytes : bytes ≡ canon_of value

abbrev pub Canon : Val → List ℕ → List ℕ → Type 0
Canon value id bytes = IsCanon 32 value id bytes
