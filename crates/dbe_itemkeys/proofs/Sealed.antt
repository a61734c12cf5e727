-- What opening gives of a field that was sealed.
use Rattle.std.proofs.Common.{◌≡◌, ℕ, ◌+◌, ◌-◌, ◌≤◌, List, ◌++◌, length, take, drop, Option, Some, None, Bool, true, false}
use Rattle.std.proofs.Common.{refl, ap, sym, ◌∙◌, arith, append_assoc, length-append, nat_le}
use Rattle.std.proofs.lemmas.List.{take_at, drop_at}
use Rattle.std.proofs.lemmas.Bool.{le-leb}
use Rattle.std.specs.List.{list_any}
use Rattle.std.specs.Str.{bytes_eq}
use Rattle.dbe_aes.specs.Counters.{inc32}
use Rattle.dbe_aes.proofs.Counters.{mode_twice}
use Rattle.dbe_gcm.specs.Gcm.{j0, gcm, streamed, tag_of}
use Rattle.dbe_gcm.proofs.Ranges.{length-streamed, length-tag_of}
use Rattle.dbe_values.specs.Val.{Val}
use Rattle.dbe_values.specs.Val as v
use Rattle.dbe_canon.specs.Canon.{Canon, type_id, canon_of}
use Rattle.dbe_canon.proofs.ReadAgain.{one_value_each}
use Rattle.dbe_canon.proofs.ReadLeaves.{bytes_same}
use Rattle.dbe_itemkeys.specs.Field.{type_ids, field_key, field_iv, field_ciphertext, field_tag, sealed_field}
use Rattle.dbe_itemkeys.specs.Field.{has_field_shape, opened_field, IsField, IsFieldFault}
use Rattle.dbe_itemkeys.specs.declared.fault.FieldFault.{FieldFault}
use Rattle.dbe_itemkeys.specs.declared.fault.FieldFault.TheVariants as fault

length-type_id : (value : Val) → length (type_id value) ≡ 2
length-type_id v.nothing = refl
length-type_id (v.text x) = refl
length-type_id (v.number x) = refl
length-type_id (v.boolean x) = refl
length-type_id (v.binary x) = refl
length-type_id (v.texts xs) = refl
length-type_id (v.numbers xs) = refl
length-type_id (v.binaries xs) = refl
length-type_id (v.map es) = refl
length-type_id (v.list xs) = refl

names_type : (value : Val) → list_any (bytes_eq (type_id value)) type_ids ≡ true
names_type v.nothing = refl
names_type (v.text x) = refl
names_type (v.number x) = refl
names_type (v.boolean x) = refl
names_type (v.binary x) = refl
names_type (v.texts xs) = refl
names_type (v.numbers xs) = refl
names_type (v.binaries xs) = refl
names_type (v.map es) = refl
names_type (v.list xs) = refl

-- an id, a ciphertext and a tag, joined and cut apart
module _ (id text tag : List ℕ) (two : length id ≡ 2) (sixteen : length tag ≡ 16) where
  size : length (id ++ text ++ tag) ≡ length text + 18
  size = omega (arith, length-append (id ++ text) tag, length-append id text)

  front : take 2 (id ++ text ++ tag) ≡ id
  front = rw (append_assoc id text tag) (take_at id (text ++ tag) 2 two)

  middle : field_ciphertext (id ++ text ++ tag) ≡ text
  middle =
      let rest : drop 2 (id ++ text ++ tag) ≡ text ++ tag =
      rw (append_assoc id text tag) (drop_at id (text ++ tag) 2 two) in
      let count : length text ≡ length (id ++ text ++ tag) - 18 = omega (arith, size) in
      rw rest (take_at text tag (length (id ++ text ++ tag) - 18) count)

  back : field_tag (id ++ text ++ tag) ≡ tag
  back =
      let count : length (id ++ text) ≡ length (id ++ text ++ tag) - 16 = omega (arith, size, length-append id text) in
      drop_at (id ++ text) tag (length (id ++ text ++ tag) - 16) count

  shaped : list_any (bytes_eq id) type_ids ≡ true → has_field_shape (id ++ text ++ tag) ≡ true
  unfolding has_field_shape
  shaped known =
      let long : 18 ≤ length (id ++ text ++ tag) = omega (arith, size) in
      rw (front, known, le-leb 18 (length (id ++ text ++ tag)) long) refl

module _ (root : List ℕ) (k : ℕ) (path : List ℕ) (value : Val) where
  abbrev ciphertext : List ℕ
  ciphertext = streamed (field_key root k) (field_iv root k) (canon_of value)

  abbrev tag : List ℕ
  tag = tag_of (field_key root k) (field_iv root k) path ciphertext

  two : length (type_id value) ≡ 2
  two = length-type_id value

  sixteen : length tag ≡ 16
  sixteen = length-tag_of (field_key root k) (field_iv root k) path ciphertext

  pub has_shape : has_field_shape (sealed_field root k path value) ≡ true
  unfolding sealed_field gcm
  has_shape = shaped (type_id value) ciphertext tag two sixteen (names_type value)

  pub has_id : take 2 (sealed_field root k path value) ≡ type_id value
  unfolding sealed_field gcm
  has_id = front (type_id value) ciphertext tag two sixteen

  pub opens : opened_field root k path (sealed_field root k path value) ≡ Some (canon_of value)
  unfolding sealed_field gcm opened_field streamed
  opens = rw (
    middle (type_id value) ciphertext tag two sixteen,
    back (type_id value) ciphertext tag two sixteen,
    bytes_same tag,
    mode_twice (field_key root k) (inc32 (j0 (field_iv root k))) (canon_of value),
  ) refl

some_same : (a b : List ℕ) → Some a ≡ Some b → a ≡ b
some_same a b same = cc

-- ---- the fields of values

module _ (root : List ℕ) (k : ℕ) (path bytes : List ℕ) where
  opens_to : (value : Val) → IsField root k path bytes value → opened_field root k path bytes ≡ Some (canon_of value)
  opens_to value field = rw field.text (opens root k path value)

  id_of : (value : Val) → IsField root k path bytes value → take 2 bytes ≡ type_id value
  id_of value field = rw field.text (has_id root k path value)

  canon : (value : Val) → IsField root k path bytes value → Canon value (take 2 bytes) (canon_of value)
  canon value field =
      record { lawful = field.lawful; short = field.short; same_id = id_of value field; same_bytes = refl }

  pub one_value : (a b : Val) → IsField root k path bytes a → IsField root k path bytes b → a ≡ b
  one_value a b of_a of_b =
      let same : canon_of a ≡ canon_of b = some_same (canon_of a) (canon_of b) (sym (opens_to a of_a) ∙ opens_to b of_b) in
      one_value_each 32 a b (take 2 bytes) (canon_of a) (canon a of_a) (rw same (canon b of_b))

  pub no_fault : (value : Val) (f : FieldFault) → IsField root k path bytes value → IsFieldFault f root k path bytes →
      f ≡ fault.Memory
  no_fault value fault.Shape field shape =
      let has : has_field_shape bytes ≡ true = rw field.text (has_shape root k path value) in
      let never : true ≡ false = sym has ∙ shape in
      cc
  no_fault value fault.Tag field tag =
      let never : Some (canon_of value) ≡ None = sym (opens_to value field) ∙ tag.1 in
      cc
  no_fault value fault.NotCanonical field none =
      let text = none.1.0 in
      let same : canon_of value ≡ text = some_same (canon_of value) text (sym (opens_to value field) ∙ none.1.1) in
      absurd (none.1.2 value (rw (← same) (canon value field)))
  no_fault value fault.Memory field any = refl
