-- Why a row does not open (this project's own): the first condition that fails, in the order of the variants.
use Rattle.std.specs.Prelude.{◌≡◌, ◌<◌, ℕ, false, List, length, slice_get, Some}
use Rattle.dbe_values.specs.declared.value.AttrValue.{AttrValue}
use Rattle.dbe_values.specs.Val.{Val}
use Rattle.dbe_canon.specs.Path.{path_of}
use Rattle.dbe_config.specs.Setting.{Setting}
use Rattle.dbe_config.specs.Rules.{is_empty_list}
use Rattle.dbe_itemkeys.specs.Field.{IsField, IsFieldFault, has_field_shape}
use Rattle.dbe_itemkeys.specs.declared.fault.FieldFault.{FieldFault}
use Rattle.dbe_itemkeys.specs.declared.fault.FieldFault.TheVariants as field
use Rattle.dbe_frame.specs.Header.{HeaderParts, IsHeaderFault}
use Rattle.dbe_frame.specs.declared.fault.FrameFault.TheVariants as frame
use Rattle.dbe_item.specs.Names.{head_name}
use Rattle.dbe_item.specs.Opens.{HasBinary, HasHeader, FitsLegend, HasSignedKey, HasFooter, IsFramed, Found, IsFound}
use Rattle.dbe_item.specs.Opens.{IsCommitted, IsTagged, IsSigned, Seeks, row_context, opened_names, opened_root}
use Rattle.dbe_item.specs.declared.open_fault.OpenFault.{OpenFault}
use Rattle.dbe_item.specs.declared.open_fault.OpenFault.TheVariants as f

-- the row's encrypted attribute with a number is a field of some value
abbrev pub HasField : Setting → List (List ℕ × AttrValue) → List ℕ → ℕ → List ℕ → Type 0
HasField c row root k name = (bytes : List ℕ) × HasBinary name row bytes ×
    ((value : Val) × IsField root k (path_of c.table name) bytes value)

-- the attribute is no field: it is no binary, or its bytes have this fault
abbrev pub HasFieldFault : FieldFault → Setting → List (List ℕ × AttrValue) → List ℕ → ℕ → List ℕ → Type 0
HasFieldFault field.Shape c row root k name = (bytes : List ℕ) → HasBinary name row bytes →
    has_field_shape bytes ≡ false
HasFieldFault fault c row root k name = (bytes : List ℕ) × HasBinary name row bytes ×
    IsFieldFault fault root k (path_of c.table name) bytes

-- the first encrypted attribute, in canonical order, that is no field
pub record IsFirstFault (fault : FieldFault) (c : Setting) (row : List (List ℕ × AttrValue)) (by : Found)
    (name : List ℕ) : Type 0 where
  pub k : ℕ
  pub place : slice_get (opened_names c row by.header) k ≡ Some name
  pub before : (j : ℕ) (other : List ℕ) → j < k → slice_get (opened_names c row by.header) j ≡ Some other →
      HasField c row (opened_root by) j other
  pub has : HasFieldFault fault c row (opened_root by) k name

abbrev pub IsFieldReason : FieldFault → Setting → List (List ℕ × AttrValue) → List ℕ → Type 0
IsFieldReason fault c row name = (by : Found) × IsSigned c row by × IsFirstFault fault c row by name

-- each condition that stands before it holds, and its own does not
abbrev pub IsReason : OpenFault → Setting → List (List ℕ × AttrValue) → Type 0
IsReason f.NoHeader c row = (bytes : List ℕ) → HasBinary head_name row bytes → ⊥
IsReason (f.HeaderFault at) c row = (bytes : List ℕ) × HasBinary head_name row bytes × IsHeaderFault
    (frame.HeaderFault at) bytes
IsReason f.LegendLength c row = (h : HeaderParts) × HasHeader row h × (FitsLegend c row h → ⊥)
IsReason f.KeyLegend c row = (h : HeaderParts) × HasHeader row h × FitsLegend c row h × (HasSignedKey c row h → ⊥)
IsReason f.FooterLength c row = (h : HeaderParts) × HasHeader row h × FitsLegend c row h × HasSignedKey c row h ×
    ((tags : List (List ℕ)) → HasFooter row (length h.edks) tags → ⊥)
IsReason f.NoRecipient c row = (h : HeaderParts) × (tags : List (List ℕ)) × IsFramed c row h tags ×
    ((place : ℕ) (data_key signing : List ℕ) →
    Seeks c.recipients (row_context c row h) h.edks place data_key signing → ⊥)
IsReason f.Commitment c row = (by : Found) × IsFound c row by × (IsCommitted by → ⊥)
IsReason f.RecipientTag c row = (by : Found) × IsFound c row by × IsCommitted by × (IsTagged c row by → ⊥)
IsReason (f.FieldShape name) c row = IsFieldReason field.Shape c row name
IsReason (f.FieldTag name) c row = IsFieldReason field.Tag c row name
IsReason (f.NotCanonical name) c row = IsFieldReason field.NotCanonical c row name
IsReason f.Memory c row = Unit {0}

-- the reason of a row that is not of a plain table, where each row opens
abbrev pub IsSealedReason : OpenFault → Setting → List (List ℕ × AttrValue) → Type 0
IsSealedReason fault c row = (is_empty_list c.recipients ≡ false) × IsReason fault c row
