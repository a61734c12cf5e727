-- A stored field: an encrypted attribute's value as the row keeps it (this project's own, over AES-256 in GCM and the
-- counter stream of SP 800-38D).
use Rattle.std.specs.Prelude.{◌≡◌, ℕ, ◌*◌, ◌-◌, ◌&&◌, Bool, true, false, List, [], ◌∷◌, ◌++◌, codes, length}
use Rattle.std.specs.Prelude.{replicate, take, drop, nat_le, bytes_eq, Option, Some, None, if◌then◌else◌}
use Rattle.std.specs.List.{list_any}
use Rattle.std.specs.Int.{w32, to_be_bytes}
use Rattle.dbe_aes.specs.Counters.{gctr}
use Rattle.dbe_gcm.specs.Gcm.{gcm, streamed, tag_of}
use Rattle.dbe_values.specs.Val.{Val}
use Rattle.dbe_values.specs.Lawful.{IsLawful}
use Rattle.dbe_canon.specs.Canon.{type_id, canon_of, HasShortParts, Canon}
use Rattle.dbe_itemkeys.specs.declared.fault.FieldFault.{FieldFault}
use Rattle.dbe_itemkeys.specs.declared.fault.FieldFault.TheVariants as fault

-- the first counter block of field k: its last four bytes are 3 k, since a field takes three blocks of the stream
abbrev pub field_block : ℕ → List ℕ
field_block k = codes "AwsDbeField" ++ 44 ∷ to_be_bytes w32 (3 * k)

-- the 44 bytes of the counter stream that are field k's
unfoldable pub field_bytes : List ℕ → ℕ → List ℕ
field_bytes root k = gctr root (field_block k) (replicate 44 0)

abbrev pub field_key : List ℕ → ℕ → List ℕ
field_key root k = take 32 (field_bytes root k)

abbrev pub field_iv : List ℕ → ℕ → List ℕ
field_iv root k = drop 32 (field_bytes root k)

-- the value's type, the ciphertext of its canonical bytes, and the tag, for which the path is the associated data
unfoldable pub sealed_field : List ℕ → ℕ → List ℕ → Val → List ℕ
sealed_field root k path value = let sealed = gcm (field_key root k) (field_iv root k) path (canon_of value) in
    type_id value ++ sealed.ciphertext ++ sealed.tag

-- the bytes are the field of this value
pub record IsField (root : List ℕ) (k : ℕ) (path bytes : List ℕ) (value : Val) : Type 0 where
  pub lawful : IsLawful 32 value
  pub short : HasShortParts value
  pub text : bytes ≡ sealed_field root k path value

-- ---- why bytes are no field

-- the types of values
abbrev pub type_ids : List (List ℕ)
type_ids =
    (0 ∷ 0 ∷ []) ∷ (0 ∷ 1 ∷ []) ∷ (0 ∷ 2 ∷ []) ∷ (0 ∷ 4 ∷ []) ∷ (255 ∷ 255 ∷ [])
    ∷ (1 ∷ 1 ∷ []) ∷ (1 ∷ 2 ∷ []) ∷ (1 ∷ 255 ∷ []) ∷ (2 ∷ 0 ∷ []) ∷ (3 ∷ 0 ∷ []) ∷ []

-- two bytes of a type and sixteen of a tag, at least
unfoldable pub has_field_shape : List ℕ → Bool
has_field_shape bytes = nat_le 18 (length bytes) && list_any (bytes_eq (take 2 bytes)) type_ids

-- what stands between the type and the tag
abbrev pub field_ciphertext : List ℕ → List ℕ
field_ciphertext bytes = take (length bytes - 18) (drop 2 bytes)

abbrev pub field_tag : List ℕ → List ℕ
field_tag bytes = drop (length bytes - 16) bytes

-- the deciphered bytes, where the tag is theirs
unfoldable pub opened_field : List ℕ → ℕ → List ℕ → List ℕ → Option (List ℕ)
opened_field root k path bytes =
    if bytes_eq (field_tag bytes) (tag_of (field_key root k) (field_iv root k) path (field_ciphertext bytes))
    then Some (streamed (field_key root k) (field_iv root k) (field_ciphertext bytes)) else None

-- a fault of opening a field: the first of these that holds
abbrev pub IsFieldFault : FieldFault → List ℕ → ℕ → List ℕ → List ℕ → Type 0
IsFieldFault fault.Shape root k path bytes = has_field_shape bytes ≡ false
IsFieldFault fault.Tag root k path bytes = (has_field_shape bytes ≡ true) × (opened_field root k path bytes ≡ None)
IsFieldFault fault.NotCanonical root k path bytes = (has_field_shape bytes ≡ true) ×
    ((text : List ℕ) × (opened_field root k path bytes ≡ Some text) ×
    ((value : Val) → Canon value (take 2 bytes) text → ⊥))
IsFieldFault fault.Memory root k path bytes = Unit {0}
