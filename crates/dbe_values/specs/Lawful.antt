-- What holds of every value that is read (Amazon DynamoDB Developer Guide, "Supported data types and naming rules").
use Rattle.std.specs.Prelude.{◌≡◌, ℕ, zero, suc, ◌<◌, true, List, [], ◌∷◌, map}
use Rattle.std.specs.List.{All}
use Rattle.std.specs.Str.{IsUtf8}
use Rattle.dbe_num.specs.Decimal.{IsNormal}
use Rattle.dbe_values.specs.Val as v
use Rattle.dbe_values.specs.Val.{Val, Vals, Entries}
use Rattle.dbe_values.specs.View.{view}
use Rattle.dbe_values.specs.Sets.{IsIncreasing, IsNumberText, IsSetOf}
use Rattle.dbe_values.specs.Attributes.{is_name}
use Rattle.dbe_values.specs.declared.value.AttrValue.{AttrValue}

abbrev pub AreBytes : List ℕ → Type 0
AreBytes = All (λ b. b < 256)

abbrev pub entry_names : Entries → List (List ℕ)
entry_names v.no_entries = []
entry_names (v.entry name x es) = name ∷ entry_names es

-- Lists and maps nest to at most so many levels; the names of a map are texts in strict order of their bytes.
abbrev mutual
  pub IsLawful : ℕ → Val → Type 0
  IsLawful left (v.text x) = IsUtf8 x
  IsLawful left (v.number x) = IsNormal x
  IsLawful left (v.binary x) = AreBytes x
  IsLawful left (v.boolean x) = Unit {0}
  IsLawful left v.nothing = Unit {0}
  IsLawful left (v.texts xs) = IsSetOf IsUtf8 xs
  IsLawful left (v.numbers xs) = IsSetOf IsNumberText xs
  IsLawful left (v.binaries xs) = IsSetOf AreBytes xs
  IsLawful zero (v.list xs) = ⊥
  IsLawful (suc left) (v.list xs) = AreLawful left xs
  IsLawful zero (v.map es) = ⊥
  IsLawful (suc left) (v.map es) = IsIncreasing (entry_names es) × AreLawfulEntries left es

  pub AreLawful : ℕ → Vals → Type 0
  AreLawful left v.no_vals = Unit {0}
  AreLawful left (v.val x xs) = IsLawful left x × AreLawful left xs

  pub AreLawfulEntries : ℕ → Entries → Type 0
  AreLawfulEntries left v.no_entries = Unit {0}
  AreLawfulEntries left (v.entry name x es) = IsUtf8 name × IsLawful left x × AreLawfulEntries left es

-- an attribute has a name of 1 to 255 bytes, and a value with at most 32 levels
pub record IsLawfulAttribute (a : List ℕ × AttrValue) : Type 0 where
  pub text : IsUtf8 a.0
  pub name : is_name a.0 ≡ true
  pub value : IsLawful 32 (view a.1)

abbrev pub names_of : List (List ℕ × AttrValue) → List (List ℕ)
names_of = map (λ a. a.0)

-- an item has each name once, in order of their bytes
pub record IsLawfulItem (attributes : List (List ℕ × AttrValue)) : Type 0 where
  pub increasing : IsIncreasing (names_of attributes)
  pub each : All IsLawfulAttribute attributes
