-- A stored field that is cut into its type, its ciphertext and its tag, and opened.
use Rattle.std.proofs.Common.{◌≡◌, ℕ, ◌+◌, ◌-◌, ◌≤◌, List, ◌++◌, length, take, drop, Option, Some, None, Bool, true, false}
use Rattle.std.proofs.Common.{refl, ap, sym, ◌∙◌, subst, arith, append_assoc, cond}
use Rattle.std.proofs.lemmas.List.{take-append-drop, drop-drop}
use Rattle.std.specs.Str.{bytes_eq}
use Rattle.dbe_gcm.specs.Gcm.{Sealed, gcm, streamed, tag_of}
use Rattle.dbe_values.specs.Val.{Val}
use Rattle.dbe_canon.specs.Canon.{Canon, type_id, canon_of}
use Rattle.dbe_canon.proofs.ReadLeaves.{bytes_same, same_bytes}
use Rattle.dbe_itemkeys.specs.Field.{field_key, field_iv, field_ciphertext, field_tag, sealed_field, opened_field, IsField}

-- the parts of a field, with its key and IV
pub record IsCut (root : List ℕ) (k : ℕ) (bytes key iv ciphertext tag : List ℕ) : Type 0 where
  pub long : 18 ≤ length bytes
  pub is_key : key ≡ field_key root k
  pub is_iv : iv ≡ field_iv root k
  pub is_ciphertext : ciphertext ≡ take (length bytes - 16 - 2) (drop 2 bytes)
  pub is_tag : tag ≡ drop (length bytes - 16) bytes

false_unless : (b : Bool) → (b ≡ true → ⊥) → b ≡ false
false_unless true other = absurd (other refl)
false_unless false other = refl

differs : (x y : List ℕ) → (x ≡ y → ⊥) → bytes_eq x y ≡ false
differs x y other = false_unless (bytes_eq x y) (λ same. other (same_bytes x y same))

shorter : (n : ℕ) → n - 16 - 2 ≡ n - 18
shorter n = omega arith

-- the parts, joined
joined : (bytes : List ℕ) → 18 ≤ length bytes → take 2 bytes ++ field_ciphertext bytes ++ field_tag bytes ≡ bytes
joined bytes long =
    let n = length bytes in
    let rest = drop 2 bytes in
    let at : 2 + (n - 18) ≡ n - 16 = omega arith in
    let tail : drop (n - 18) rest ≡ field_tag bytes = drop-drop (n - 18) 2 bytes ∙ ap (λ m. drop m bytes) at in
    rw (append_assoc (take 2 bytes) (field_ciphertext bytes) (field_tag bytes), ← tail, take-append-drop (n - 18) rest)
    (take-append-drop 2 bytes)

module _ (root : List ℕ) (k : ℕ) (path bytes key iv ciphertext tag : List ℕ) (cut : IsCut root k bytes key iv ciphertext
    tag) where
  is_ciphertext : ciphertext ≡ field_ciphertext bytes
  is_ciphertext = cut.is_ciphertext ∙ ap (λ m. take m (drop 2 bytes)) (shorter (length bytes))

  pub is_opened : (text : List ℕ) → tag ≡ tag_of key iv path ciphertext → text ≡ streamed key iv ciphertext →
      opened_field root k path bytes ≡ Some text
  unfolding opened_field
  is_opened text same deciphered =
      rw (← is_ciphertext, ← cut.is_key, ← cut.is_iv, ← cut.is_tag, same, bytes_same (tag_of key iv path ciphertext), deciphered) refl

  pub not_opened : (tag ≡ tag_of key iv path ciphertext → false ≡ true) → opened_field root k path bytes ≡ None
  unfolding opened_field
  not_opened only =
      let other : tag ≡ tag_of key iv path ciphertext → ⊥ = λ same. let never : false ≡ true = only same in cc in
      rw (← is_ciphertext, ← cut.is_key, ← cut.is_iv, ← cut.is_tag, differs tag (tag_of key iv path ciphertext) other) refl

  pub is_field : (text id shown : List ℕ) (value : Val) → gcm key iv path text ≡ record { ciphertext = ciphertext; tag = tag } →
      id ≡ take 2 bytes → shown ≡ text → Canon value id shown → IsField root k path bytes value
  unfolding sealed_field
  is_field text id shown value sealed is_id is_shown canon =
      let canonical : canon_of value ≡ text = sym canon.same_bytes ∙ is_shown in
      let type : type_id value ≡ take 2 bytes = sym canon.same_id ∙ is_id in
      record {
        lawful = canon.lawful;
        short = canon.short;
        text = rw (← cut.is_key, ← cut.is_iv, canonical, sealed, type, is_ciphertext, cut.is_tag)
            (sym (joined bytes cut.long));
      }
