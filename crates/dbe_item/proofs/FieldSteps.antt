-- The fields of encrypted attributes, one after another.
use Rattle.std.proofs.Common.{◌≡◌, ◌⊎◌, inl, inr, ℕ, zero, suc, ◌+◌, ◌<◌, List, [], ◌∷◌, ◌++◌, length, get_or, Some}
use Rattle.std.proofs.Common.{refl, sym}
use Rattle.std.proofs.Common.{ap, ◌∙◌, subst, arith, length-append}
use Rattle.std.specs.Prelude.{Result, Ok, Err, IfErr, false, slice_get}
use Rattle.std.proofs.lemmas.Option.{slice_get-get_or, slice_get_read}
use Rattle.dbe_values.specs.View.{view}
use Rattle.dbe_values.specs.declared.value.AttrValue.{AttrValue, Null}
use Rattle.dbe_canon.specs.Path.{path_of}
use Rattle.dbe_config.specs.Setting.{Setting}
use Rattle.dbe_itemkeys.specs.Field.{IsFieldFault, has_field_shape}
use Rattle.dbe_itemkeys.specs.declared.fault.FieldFault.{FieldFault}
use Rattle.dbe_itemkeys.specs.declared.fault.FieldFault.TheVariants as field
use Rattle.dbe_item.specs.Opens.{HasBinary, Found, IsSigned, opened_names, opened_root}
use Rattle.dbe_item.specs.Opening.{AreFields, OpensField, named_fault}
use Rattle.dbe_item.specs.Reasons.{HasField, HasFieldFault, IsFirstFault, IsReason}
use Rattle.dbe_item.specs.declared.open_fault.OpenFault.{OpenFault}
use Rattle.dbe_item.specs.declared.open_fault.OpenFault.TheVariants as f
use Rattle.dbe_item.proofs.Frames.{same_binary}

same_some : {A : Type 0} (x y : A) → Some x ≡ Some y → x ≡ y
same_some x y e = cc

-- the fault of bytes is that of their attribute
pub attribute_fault : {A : Type 0} (c : Setting) (row : List (List ℕ × AttrValue)) (root : List ℕ) (k : ℕ)
    (name path bytes : List ℕ) (r : Result A FieldFault) → HasBinary name row bytes → path ≡ path_of c.table name →
    IfErr r (λ e. IsFieldFault e root k path bytes) → IfErr r (λ e. HasFieldFault e c row root k name)
attribute_fault c row root k name path bytes (Ok v) stored same h = tt
attribute_fault c row root k name path bytes (Err field.Shape) stored same h =
    λ other at. subst (λ b. has_field_shape b ≡ false) (same_binary name row bytes other stored at) h
attribute_fault c row root k name path bytes (Err field.Tag) stored same h =
    (bytes, stored, subst (λ p. IsFieldFault field.Tag root k p bytes) same h)
attribute_fault c row root k name path bytes (Err field.NotCanonical) stored same h =
    (bytes, stored, subst (λ p. IsFieldFault field.NotCanonical root k p bytes) same h)
attribute_fault c row root k name path bytes (Err field.Memory) stored same h = (bytes, stored, tt)

-- an element of a list with one more
pushed : {A : Type 0} (xs : List A) (v : A) (k : ℕ) (w : A) → slice_get (xs ++ v ∷ []) k ≡ Some w →
    (slice_get xs k ≡ Some w) ⊎ ((k ≡ length xs) × (v ≡ w))
pushed [] v zero w e = inr (refl, same_some v w e)
pushed [] v (suc k) w e = absurd cc
pushed (x ∷ xs) v zero w e = inl e
pushed (x ∷ xs) v (suc k) w e = elim (pushed xs v k w e) [
  | inl h ↦ inl h
  | inr h ↦ inr (ap suc h.0, h.1)
]

module _ (c : Setting) (row : List (List ℕ × AttrValue)) (root : List ℕ) (names : List (List ℕ)) where
  -- the first i names are opened
  pub record OpenedSoFar (values : List AttrValue) (i : ℕ) : Type 0 where
    pub count : length values ≡ i
    pub each : (k : ℕ) (name : List ℕ) (value : AttrValue) → slice_get names k ≡ Some name →
        slice_get values k ≡ Some value → OpensField c row root k name value

  pub none_opened : OpenedSoFar [] 0
  none_opened = record { count = refl; each = λ k name value n v. absurd cc }

  pub one_opened : (values new : List AttrValue) (i : ℕ) (name : List ℕ) (value : AttrValue) → OpenedSoFar values i →
      i < length names → name ≡ get_or names i name → OpensField c row root i name value →
      new ≡ values ++ value ∷ [] → OpenedSoFar new (i + 1)
  one_opened values new i name value so_far lt is opens push = record {
    count = omega (arith, ap length push ∙ length-append values (value ∷ []), so_far.count);
    each = λ k n v at_name at_value. elim (pushed values value k v (subst (λ xs. slice_get xs k ≡ Some v) push
        at_value)) [
          | inl h ↦ so_far.each k n v at_name h
          | inr h ↦ let k_is : i ≡ k = sym (h.0 ∙ so_far.count) in
              let here : slice_get names i ≡ Some name = slice_get_read names (length names) i name refl lt is in
              let same : name ≡ n = same_some name n (sym here ∙
              subst (λ m. slice_get names m ≡ Some n) (sym k_is) at_name)
              in subst (λ m. OpensField c row root m n v) k_is (subst (λ m. OpensField c row root i m v) same (subst
              (λ w. OpensField c row root i name w) h.1 opens))
        ];
  }

  pub all_opened : (values : List AttrValue) (i : ℕ) → OpenedSoFar values i → i ≡ length names →
      AreFields c row root names values
  all_opened values i so_far end = record { count = so_far.count ∙ end; each = so_far.each }

  -- ---- the first fault

  module _ (values : List AttrValue) (i : ℕ) (name : List ℕ) (so_far : OpenedSoFar values i) (lt : i < length names)
      (is : name ≡ get_or names i name) (by : Found) (signed : IsSigned c row by)
      (same_names : opened_names c row by.header ≡ names) (same_root : opened_root by ≡ root) where
    opened_before : (j : ℕ) (other : List ℕ) → j < i → slice_get names j ≡ Some other → HasField c row root j other
    opened_before j other low at =
        let value = get_or values j Null in
        let opens = so_far.each j other value at (slice_get-get_or values j Null (omega (arith, low, so_far.count))) in
        (opens.0, opens.1, (view value, opens.2))

    first : (fault : FieldFault) → HasFieldFault fault c row root i name → IsFirstFault fault c row by name
    first fault has = record {
      k = i;
      place = subst (λ xs. slice_get xs i ≡ Some name) (sym same_names)
          (slice_get_read names (length names) i name refl lt is);
      before = λ j other low at. subst (λ r. HasField c row r j other) (sym same_root) (opened_before j other low (subst
          (λ xs. slice_get xs j ≡ Some other) same_names at));
      has = subst (λ r. HasFieldFault fault c row r i name) (sym same_root) has;
    }

    named_reason : (fault : FieldFault) → HasFieldFault fault c row root i name →
        IsReason (named_fault fault name) c row
    named_reason field.Shape has = (by, signed, first field.Shape has)
    named_reason field.Tag has = (by, signed, first field.Tag has)
    named_reason field.NotCanonical has = (by, signed, first field.NotCanonical has)
    named_reason field.Memory has = tt

    pub field_reason : (fault : FieldFault) (result : OpenFault) → HasFieldFault fault c row root i name →
        (result ≡ f.Memory) ⊎ (result ≡ named_fault fault name) → IsReason result c row
    field_reason fault result has answer = elim answer [
      | inl e ↦ subst (λ r. IsReason r c row) (sym e) tt
      | inr e ↦ subst (λ r. IsReason r c row) (sym e) (named_reason fault has)
    ]
