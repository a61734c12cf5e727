-- Steps of opening a row; not part of what is promised.
use Rattle.std.specs.Prelude.{◌≡◌, ◌⊎◌, ℕ, zero, suc, List, [], ◌∷◌, length, map, get_or, bytes_eq}
use Rattle.std.specs.Prelude.{slice_get, Some, if◌then◌else◌}
use Rattle.std.specs.List.{list_any}
use Rattle.dbe_values.specs.View.{view}
use Rattle.dbe_values.specs.declared.value.AttrValue.{AttrValue}
use Rattle.dbe_canon.specs.Path.{path_of}
use Rattle.dbe_config.specs.Setting.{Setting}
use Rattle.dbe_rawring.specs.Edk.{EdkParts}
use Rattle.dbe_rawring.specs.Ring.{RawRingParts, Unwraps}
use Rattle.dbe_itemkeys.specs.Field.{IsField}
use Rattle.dbe_itemkeys.specs.declared.fault.FieldFault.{FieldFault}
use Rattle.dbe_itemkeys.specs.declared.fault.FieldFault.TheVariants as field
use Rattle.dbe_frame.specs.Header.{HeaderParts}
use Rattle.dbe_item.specs.Names.{number_of, strip}
use Rattle.dbe_item.specs.Opens.{HasBinary, Found, IsSigned, opened_root}
use Rattle.dbe_item.specs.declared.open_fault.OpenFault.{OpenFault}
use Rattle.dbe_item.specs.declared.open_fault.OpenFault.TheVariants as f

-- ---- seeking among rings

abbrev pub RingUnwrapsNothing : List ℕ → EdkParts → RawRingParts → Type 0
RingUnwrapsNothing context edk ring = (data_key signing : List ℕ) → Unwraps ring context edk data_key signing → ⊥

-- the first ring that unwraps it
abbrev pub FirstRing : List RawRingParts → List ℕ → EdkParts → List ℕ → List ℕ → Type 0
FirstRing [] context edk data_key signing = ⊥
FirstRing (ring ∷ others) context edk data_key signing = Unwraps ring context edk data_key signing ⊎
    (RingUnwrapsNothing context edk ring × FirstRing others context edk data_key signing)

-- no ring unwraps it
abbrev pub NoRing : List RawRingParts → List ℕ → EdkParts → Type 0
NoRing [] context edk = Unit {0}
NoRing (ring ∷ others) context edk = RingUnwrapsNothing context edk ring × NoRing others context edk

-- the place of the first encrypted data key that a ring unwraps
abbrev pub SeeksRing : List RawRingParts → List ℕ → List EdkParts → ℕ → List ℕ → List ℕ → Type 0
SeeksRing rings context [] place data_key signing = ⊥
SeeksRing rings context (edk ∷ others) zero data_key signing = FirstRing rings context edk data_key signing
SeeksRing rings context (edk ∷ others) (suc place) data_key signing = NoRing rings context edk ×
    SeeksRing rings context others place data_key signing

-- no ring unwraps any
abbrev pub SeeksNone : List RawRingParts → List ℕ → List EdkParts → Type 0
SeeksNone rings context [] = Unit {0}
SeeksNone rings context (edk ∷ others) = NoRing rings context edk × SeeksNone rings context others

-- ---- what was verified of a row

-- the row is signed, with this header, place and root key
pub record IsSignedWith (c : Setting) (row : List (List ℕ × AttrValue)) (h : HeaderParts) (place : ℕ) (root : List ℕ) :
    Type 0 where
  pub by : Found
  pub signed : IsSigned c row by
  pub header_found : by.header ≡ h
  pub place_found : by.place ≡ place
  pub root_found : opened_root by ≡ root

-- ---- the fields

-- the stored field of a name, with its number, is the field of a value
abbrev pub OpensField : Setting → List (List ℕ × AttrValue) → List ℕ → ℕ → List ℕ → AttrValue → Type 0
OpensField c row root k name value = (bytes : List ℕ) × HasBinary name row bytes ×
    IsField root k (path_of c.table name) bytes (view value)

-- values are those of the fields of names
pub record AreFields (c : Setting) (row : List (List ℕ × AttrValue)) (root : List ℕ) (names : List (List ℕ))
    (values : List AttrValue) : Type 0 where
  pub count : length values ≡ length names
  pub each : (k : ℕ) (name : List ℕ) (value : AttrValue) → slice_get names k ≡ Some name →
      slice_get values k ≡ Some value → OpensField c row root k name value

-- the fault of an encrypted attribute
abbrev pub named_fault : FieldFault → List ℕ → OpenFault
named_fault field.Shape name = f.FieldShape name
named_fault field.Tag name = f.FieldTag name
named_fault field.NotCanonical name = f.NotCanonical name
named_fault field.Memory name = f.Memory

-- ---- the item

-- an encrypted attribute has the opened value of its number, and another its stored value
abbrev pub opened_value : List (List ℕ) → List AttrValue → List ℕ → AttrValue → AttrValue
opened_value names values name stored =
    if list_any (bytes_eq name) names then get_or values (number_of name names) stored else stored

abbrev pub opened_attribute : List (List ℕ) → List AttrValue → List ℕ × AttrValue → List ℕ × AttrValue
opened_attribute names values a = (a.0, opened_value names values a.0 a.1)

abbrev pub opened_attributes : List (List ℕ) → List AttrValue → List (List ℕ × AttrValue) →
    List (List ℕ × AttrValue)
opened_attributes names values row = map (opened_attribute names values) (strip row)
