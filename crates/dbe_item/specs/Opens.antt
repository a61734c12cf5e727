-- Which item a row opens to (this project's own). It says what the bytes of the row equal, and deciphers nothing.
use Rattle.std.specs.Prelude.{◌≡◌, ◌==◌, ◌⊎◌, ℕ, zero, suc, Bool, true, false, List, [], ◌∷◌, length, filter, get_or}
use Rattle.std.specs.Prelude.{Some}
use Rattle.std.specs.Prelude.{bytes_eq}
use Rattle.std.specs.List.{All, AllZip, list_any}
use Rattle.std.specs.Option.{IfSome}
use Rattle.dbe_values.specs.View.{view}
use Rattle.dbe_values.specs.Keys.{key_of, has_key}
use Rattle.dbe_values.specs.Attributes.{value_at}
use Rattle.dbe_values.specs.declared.value.AttrValue.{AttrValue, B}
use Rattle.dbe_canon.specs.Path.{path_of}
use Rattle.dbe_config.specs.Setting.{Setting}
use Rattle.dbe_config.specs.Rules.{is_empty_list}
use Rattle.dbe_config.specs.declared.recipient.Recipient.{Recipient}
use Rattle.dbe_config.specs.declared.recipient.Recipient.TheVariants as recipient
use Rattle.dbe_rawring.specs.Edk.{EdkParts}
use Rattle.dbe_rawring.specs.Ring.{Unwraps}
use Rattle.dbe_itemkeys.specs.ItemKeys.{commitment, root_key, recipient_tag}
use Rattle.dbe_itemkeys.specs.Field.{IsField}
use Rattle.dbe_frame.specs.Header.{HeaderParts, IsHeader, header_prefix, header_text}
use Rattle.dbe_frame.specs.Context.{full_context}
use Rattle.dbe_frame.specs.Signed.{signed_names}
use Rattle.dbe_frame.specs.Record.{record_text}
use Rattle.dbe_frame.specs.Footer.{AreTags}
use Rattle.dbe_frame.specs.Sizes.{encrypted, signed_only}
use Rattle.dbe_item.specs.Names.{head_name, foot_name, marked, number_of, strip}
use Rattle.dbe_item.specs.Sealed.{raw_ring}

-- ---- seeking a data key

-- a recipient unwraps an encrypted data key; recipients of branches are not built yet
abbrev pub RecipientUnwraps : Recipient → List ℕ → EdkParts → List ℕ → List ℕ → Type 0
RecipientUnwraps (recipient.Raw namespace name key) context edk data_key signing =
    Unwraps (raw_ring namespace name key) context edk data_key signing
RecipientUnwraps (recipient.Branch branch) context edk data_key signing = ⊥

abbrev pub UnwrapsNothing : List ℕ → EdkParts → Recipient → Type 0
UnwrapsNothing context edk r = (data_key signing : List ℕ) → RecipientUnwraps r context edk data_key signing → ⊥

-- the first recipient that unwraps it
abbrev pub FirstUnwraps : List Recipient → List ℕ → EdkParts → List ℕ → List ℕ → Type 0
FirstUnwraps [] context edk data_key signing = ⊥
FirstUnwraps (r ∷ others) context edk data_key signing = RecipientUnwraps r context edk data_key signing ⊎
    (UnwrapsNothing context edk r × FirstUnwraps others context edk data_key signing)

-- The encrypted data keys are tried in order, each by the recipients in order; the first that unwraps has a place.
abbrev pub Seeks : List Recipient → List ℕ → List EdkParts → ℕ → List ℕ → List ℕ → Type 0
Seeks recipients context [] place data_key signing = ⊥
Seeks recipients context (edk ∷ others) zero data_key signing = FirstUnwraps recipients context edk data_key signing
Seeks recipients context (edk ∷ others) (suc place) data_key signing = All (UnwrapsNothing context edk) recipients ×
    Seeks recipients context others place data_key signing

-- ---- the conditions of a row, in their order

-- a binary attribute
abbrev pub HasBinary : List ℕ → List (List ℕ × AttrValue) → List ℕ → Type 0
HasBinary name row bytes = value_at name row ≡ Some (B bytes)

-- the row's header is this
pub record HasHeader (row : List (List ℕ × AttrValue)) (h : HeaderParts) : Type 0 where
  pub bytes : List ℕ
  pub stored : HasBinary head_name row bytes
  pub is : IsHeader h bytes

-- a legend byte for each signed name
abbrev pub FitsLegend : Setting → List (List ℕ × AttrValue) → HeaderParts → Type 0
FitsLegend c row h = length h.legend ≡ length (signed_names c row)

-- the legend byte of a name
abbrev pub legend_of : Setting → List (List ℕ × AttrValue) → HeaderParts → List ℕ → ℕ
legend_of c row h name = get_or h.legend (number_of name (signed_names c row)) 0

-- the row has a lawful key, and the legend says `s` of its attributes
pub record HasSignedKey (c : Setting) (row : List (List ℕ × AttrValue)) (h : HeaderParts) : Type 0 where
  pub lawful : has_key c.schema row ≡ true
  pub partition : legend_of c row h c.schema.partition.name ≡ signed_only
  pub sort : IfSome c.schema.sort (λ key. legend_of c row h key.name ≡ signed_only)

-- the row's footer has so many tags
pub record HasFooter (row : List (List ℕ × AttrValue)) (n : ℕ) (tags : List (List ℕ)) : Type 0 where
  pub bytes : List ℕ
  pub stored : HasBinary foot_name row bytes
  pub are : AreTags n tags bytes

-- all that is asked before a data key is sought
pub record IsFramed (c : Setting) (row : List (List ℕ × AttrValue)) (h : HeaderParts) (tags : List (List ℕ)) : Type 0
  where
    pub header : HasHeader row h
    pub legend : FitsLegend c row h
    pub key : HasSignedKey c row h
    pub footer : HasFooter row (length h.edks) tags

abbrev pub row_context : Setting → List (List ℕ × AttrValue) → HeaderParts → List ℕ
row_context c row h = full_context c.schema c.table (key_of c.schema row) h.context

-- what was found of a row: its header, its tags, the place of the encrypted data key that unwraps, the data key and the
-- signing key
pub record Found : Type 0 where
  pub header : HeaderParts
  pub tags : List (List ℕ)
  pub place : ℕ
  pub data_key : List ℕ
  pub signing : List ℕ

pub record IsFound (c : Setting) (row : List (List ℕ × AttrValue)) (f : Found) : Type 0 where
  pub framed : IsFramed c row f.header f.tags
  pub seeks : Seeks c.recipients (row_context c row f.header) f.header.edks f.place f.data_key f.signing

-- the commitment is that of the data key
abbrev pub IsCommitted : Found → Type 0
IsCommitted f =
    f.header.commitment ≡ commitment f.data_key f.header.message_id (header_prefix f.header)

-- the tag at the place of the encrypted data key is that of the record text
abbrev pub IsTagged : Setting → List (List ℕ × AttrValue) → Found → Type 0
IsTagged c row f = get_or f.tags f.place [] ≡ recipient_tag f.signing
    (record_text (header_text f.header) c row f.header.legend)

pub record IsSigned (c : Setting) (row : List (List ℕ × AttrValue)) (f : Found) : Type 0 where
  pub found : IsFound c row f
  pub committed : IsCommitted f
  pub tagged : IsTagged c row f

-- ---- the item

-- the row's encrypted names, in canonical order
abbrev pub opened_names : Setting → List (List ℕ × AttrValue) → HeaderParts → List (List ℕ)
opened_names c row h = marked (signed_names c row) h.legend

abbrev pub opened_root : Found → List ℕ
opened_root f = root_key f.data_key f.header.message_id

-- a stored field of a value
abbrev pub FieldOpens : Setting → List ℕ → ℕ → List ℕ → AttrValue → AttrValue → Type 0
FieldOpens c root k name stored value = (bytes : List ℕ) × (stored ≡ B bytes) ×
    IsField root k (path_of c.table name) bytes (view value)

-- an encrypted attribute is the field of its value, numbered among the encrypted names; another is the value
abbrev pub ValueOpens : Bool → Setting → List ℕ → ℕ → List ℕ → AttrValue → AttrValue → Type 0
ValueOpens true c root k name stored value = FieldOpens c root k name stored value
ValueOpens false c root k name stored value = value ≡ stored

abbrev pub AttributeOpens : Setting → List ℕ → List (List ℕ) → List ℕ × AttrValue → List ℕ × AttrValue → Type 0
AttributeOpens c root names stored a = (a.0 ≡ stored.0) × ValueOpens (list_any (bytes_eq a.0) names) c root
    (number_of a.0 names) a.0 stored.1 a.1

-- each attribute that is no header, footer or beacon, in its order
abbrev pub AttributesOpen : Setting → List (List ℕ × AttrValue) → Found → List (List ℕ × AttrValue) → Type 0
AttributesOpen c row f item =
    AllZip (AttributeOpens c (opened_root f) (opened_names c row f.header)) (strip row) item

-- a sealed row opens to an item, by the encrypted data key at a place
pub record OpensSealed (c : Setting) (row item : List (List ℕ × AttrValue)) (place : ℕ) : Type 0 where
  pub by : Found
  pub signed : IsSigned c row by
  pub place_found : by.place ≡ place
  pub attributes : AttributesOpen c row by item

abbrev pub OpensBy : Bool → Setting → List (List ℕ × AttrValue) → List (List ℕ × AttrValue) → ℕ → Type 0
OpensBy true c row item place = (item ≡ row) × (place ≡ 0)
OpensBy false c row item place = OpensSealed c row item place

-- A row opens to an item; over a plain table each row opens to itself.
abbrev pub Opens : Setting → List (List ℕ × AttrValue) → List (List ℕ × AttrValue) → ℕ → Type 0
Opens c row item place = OpensBy (is_empty_list c.recipients) c row item place

-- how many attributes are encrypted, and how many signed
pub record AreSealedCounts (row : List (List ℕ × AttrValue)) (n m : ℕ) : Type 0 where
  pub header : HeaderParts
  pub has : HasHeader row header
  pub encrypted_count : n ≡ length (filter (λ b. b == encrypted) header.legend)
  pub signed_count : m ≡ length header.legend

abbrev pub AreCountsBy : Bool → List (List ℕ × AttrValue) → ℕ → ℕ → Type 0
AreCountsBy true row n m = (n ≡ 0) × (m ≡ 0)
AreCountsBy false row n m = AreSealedCounts row n m

-- by the legend of the row; over a plain table none
abbrev pub AreCounts : Setting → List (List ℕ × AttrValue) → ℕ → ℕ → Type 0
AreCounts c row n m = AreCountsBy (is_empty_list c.recipients) row n m
