-- A row has one reason not to open, apart from memory.
use Rattle.std.proofs.Common.{◌≡◌, ℕ, zero, suc, ◌≤◌, ◌<◌, true, false, List, slice_get, Some, None}
use Rattle.std.proofs.Common.{refl, sym, ap, ◌∙◌, subst, ◌⊎◌, inl, inr, arith}
use Rattle.dbe_values.specs.declared.value.AttrValue.{AttrValue}
use Rattle.dbe_canon.specs.Path.{path_of}
use Rattle.dbe_config.specs.Setting.{Setting}
use Rattle.dbe_itemkeys.specs.Field.{IsFieldFault, has_field_shape, opened_field}
use Rattle.dbe_itemkeys.specs.declared.fault.FieldFault.{FieldFault}
use Rattle.dbe_itemkeys.specs.declared.fault.FieldFault.TheVariants as field
use Rattle.dbe_itemkeys.proofs.Sealed.{no_fault}
use Rattle.dbe_frame.specs.Format.{LongestPrefix}
use Rattle.dbe_frame.specs.Header.{header}
use Rattle.dbe_item.specs.Names.{head_name}
use Rattle.dbe_item.specs.Opens.{HasBinary, Found, opened_names, opened_root}
use Rattle.dbe_item.specs.Reasons.{IsReason, HasField, HasFieldFault, IsFirstFault, IsFieldReason}
use Rattle.dbe_item.specs.declared.open_fault.OpenFault.{OpenFault}
use Rattle.dbe_item.specs.declared.open_fault.OpenFault.TheVariants as f
use Rattle.dbe_item.proofs.LawsFound.{same_some, one_binary, found_once}
use Rattle.dbe_item.proofs.LawsStages.{stage, none_earlier}

-- ---- faults of a field

module _ (c : Setting) (row : List (List ℕ × AttrValue)) (root : List ℕ) (k : ℕ) (name : List ℕ) where
  faultless : (x : FieldFault) (bytes : List ℕ) (p : HasField c row root k name) → HasBinary name row bytes →
      IsFieldFault x root k (path_of c.table name) bytes → x ≡ field.Memory
  faultless x bytes p stored fault =
      let path = path_of c.table name in
      let same = one_binary name row bytes p.0 stored p.1 in
      no_fault root k path p.0 p.2.0 x p.2.1 (subst (λ b. IsFieldFault x root k path b) same fault)

  pub has_no_fault : (x : FieldFault) → HasField c row root k name → HasFieldFault x c row root k name →
      x ≡ field.Memory
  has_no_fault field.Shape p q = faultless field.Shape p.0 p p.1 (q p.0 p.1)
  has_no_fault field.Tag p q = faultless field.Tag q.0 p q.1 q.2
  has_no_fault field.NotCanonical p q = faultless field.NotCanonical q.0 p q.1 q.2
  has_no_fault field.Memory p q = refl

  shaped : {A : Type 0} (bytes : List ℕ) → has_field_shape bytes ≡ true → has_field_shape bytes ≡ false → A
  shaped bytes e g = let never : true ≡ false = sym e ∙ g in absurd cc

  opened : {A : Type 0} (x y text : List ℕ) → HasBinary name row x → HasBinary name row y →
      opened_field root k (path_of c.table name) x ≡ None → opened_field root k (path_of c.table name) y ≡ Some text → A
  opened x y text p q e g =
      let path = path_of c.table name in
      let same = ap (opened_field root k path) (one_binary name row x y p q) in
      let never : None ≡ Some text = sym e ∙ same ∙ g in absurd cc

  one_fault : (x y : FieldFault) → (x ≡ field.Memory → ⊥) → (y ≡ field.Memory → ⊥) →
      HasFieldFault x c row root k name → HasFieldFault y c row root k name → x ≡ y
  one_fault field.Memory y m n p q = absurd (m refl)
  one_fault x field.Memory m n p q = absurd (n refl)
  one_fault field.Shape field.Shape m n p q = refl
  one_fault field.Shape field.Tag m n p q = shaped q.0 q.2.0 (p q.0 q.1)
  one_fault field.Shape field.NotCanonical m n p q = shaped q.0 q.2.0 (p q.0 q.1)
  one_fault field.Tag field.Shape m n p q = shaped p.0 p.2.0 (q p.0 p.1)
  one_fault field.Tag field.Tag m n p q = refl
  one_fault field.Tag field.NotCanonical m n p q = opened p.0 q.0 q.2.1.0 p.1 q.1 p.2.1 q.2.1.1
  one_fault field.NotCanonical field.Shape m n p q = shaped p.0 p.2.0 (q p.0 p.1)
  one_fault field.NotCanonical field.Tag m n p q = opened q.0 p.0 p.2.1.0 q.1 p.1 q.2.1 p.2.1.1
  one_fault field.NotCanonical field.NotCanonical m n p q = refl

side : (m n : ℕ) → (m < n) ⊎ ((n < m) ⊎ (m ≡ n))
side m n = grind arith

module _ (c : Setting) (row : List (List ℕ × AttrValue)) (x y : FieldFault) (m : x ≡ field.Memory → ⊥)
    (n : y ≡ field.Memory → ⊥) (name other : List ℕ) where
  first_fault_once : (by : Found) → IsFirstFault x c row by name → IsFirstFault y c row by other →
      (x ≡ y) × (name ≡ other)
  first_fault_once by p q =
      let root = opened_root by in
      elim (side p.k q.k) [
        | inl lt ↦ absurd (m (has_no_fault c row root p.k name x (q.before p.k name lt p.place) p.has))
        | inr rest ↦ elim rest [
          | inl lt ↦ absurd (n (has_no_fault c row root q.k other y (p.before q.k other lt q.place) q.has))
          | inr same ↦
              let names = opened_names c row by.header in
              let one = same_some name other (sym p.place ∙ ap (λ k. slice_get names k) same ∙ q.place) in
              let there : HasFieldFault y c row root p.k name =
              subst (λ k. HasFieldFault y c row root k name) (sym same)
              (subst (λ z. HasFieldFault y c row root q.k z) (sym one) q.has) in
              (one_fault c row root p.k name x y m n p.has there, one)
        ]
      ]

  field_reason_once : IsFieldReason x c row name → IsFieldReason y c row other → (x ≡ y) × (name ≡ other)
  field_reason_once p q =
      let same = found_once c row q.0 p.0 q.1.found p.1.found in
      first_fault_once p.0 p.2 (subst (λ (by : Found). IsFirstFault y c row by other) same q.2)

-- ---- the reasons of a stage

-- the reason of a stage that has one alone
abbrev plain : ℕ → OpenFault
plain zero = f.NoHeader
plain (suc zero) = f.Memory
plain (suc (suc zero)) = f.LegendLength
plain (suc (suc (suc zero))) = f.KeyLegend
plain (suc (suc (suc (suc zero)))) = f.FooterLength
plain (suc (suc (suc (suc (suc zero))))) = f.NoRecipient
plain (suc (suc (suc (suc (suc (suc zero)))))) = f.Commitment
plain (suc (suc (suc (suc (suc (suc (suc zero))))))) = f.RecipientTag
plain (suc (suc (suc (suc (suc (suc (suc (suc n)))))))) = f.Memory

abbrev named_by : FieldFault → List ℕ → OpenFault
named_by field.Shape name = f.FieldShape name
named_by field.Tag name = f.FieldTag name
named_by field.NotCanonical name = f.NotCanonical name
named_by field.Memory name = f.Memory

abbrev Names : OpenFault → Type 0
Names x = (fault : FieldFault) × (name : List ℕ) × (x ≡ named_by fault name) × (fault ≡ field.Memory → ⊥)

kind : (x : OpenFault) → (x ≡ plain (stage x)) ⊎ (((at : ℕ) × (x ≡ f.HeaderFault at)) ⊎ Names x)
kind f.NoHeader = inl refl
kind (f.HeaderFault at) = inr (inl (at, refl))
kind f.LegendLength = inl refl
kind f.KeyLegend = inl refl
kind f.FooterLength = inl refl
kind f.NoRecipient = inl refl
kind f.Commitment = inl refl
kind f.RecipientTag = inl refl
kind (f.FieldShape name) = inr (inr (field.Shape, name, refl, λ e. cc))
kind (f.FieldTag name) = inr (inr (field.Tag, name, refl, λ e. cc))
kind (f.NotCanonical name) = inr (inr (field.NotCanonical, name, refl, λ e. cc))
kind f.Memory = inl refl

stage_named : (fault : FieldFault) (name : List ℕ) → (fault ≡ field.Memory → ⊥) → stage (named_by fault name) ≡ 8
stage_named field.Shape name m = refl
stage_named field.Tag name m = refl
stage_named field.NotCanonical name m = refl
stage_named field.Memory name m = absurd (m refl)

reason_named : (c : Setting) (row : List (List ℕ × AttrValue)) (fault : FieldFault) (name : List ℕ) →
    (fault ≡ field.Memory → ⊥) → IsReason (named_by fault name) c row → IsFieldReason fault c row name
reason_named c row field.Shape name m p = p
reason_named c row field.Tag name m p = p
reason_named c row field.NotCanonical name m p = p
reason_named c row field.Memory name m p = absurd (m refl)

most : (x : OpenFault) → (x ≡ f.Memory → ⊥) → stage x ≤ 8
most f.NoHeader m = omega arith
most (f.HeaderFault at) m = omega arith
most f.LegendLength m = omega arith
most f.KeyLegend m = omega arith
most f.FooterLength m = omega arith
most f.NoRecipient m = omega arith
most f.Commitment m = omega arith
most f.RecipientTag m = omega arith
most (f.FieldShape name) m = omega arith
most (f.FieldTag name) m = omega arith
most (f.NotCanonical name) m = omega arith
most f.Memory m = absurd (m refl)

module _ (c : Setting) (row : List (List ℕ × AttrValue)) where
  header_fault_once : (a b : ℕ) → IsReason (f.HeaderFault a) c row → IsReason (f.HeaderFault b) c row → a ≡ b
  header_fault_once a b p q =
      let same = one_binary head_name row q.0 p.0 q.1 p.1 in
      let x = p.2.1 in
      let y = subst (λ bytes. LongestPrefix header bytes b) same q.2.1 in
      let low = x.longest y.fields y.are_first y.begins in
      let high = y.longest x.fields x.are_first x.begins in
      omega (arith, x.has_size, y.has_size, low, high)

  apart : (x y : OpenFault) (at : ℕ) → x ≡ f.HeaderFault at → Names y → stage x ≡ stage y → ⊥
  apart x y at e g same =
      let first : stage x ≡ 1 = ap stage e in
      let last : stage y ≡ 8 = ap stage g.2 ∙ stage_named g.0 g.1 g.3 in
      omega arith

  -- a plain stage is none of the others
  plain_at : (x : OpenFault) (n : ℕ) → x ≡ plain (stage x) → stage x ≡ n → x ≡ plain n
  plain_at x n e s = e ∙ ap plain s

  same_stage : (x y : OpenFault) → (x ≡ f.Memory → ⊥) → (y ≡ f.Memory → ⊥) → IsReason x c row → IsReason y c row →
      stage x ≡ stage y → x ≡ y
  same_stage x y m n p q same = elim (kind x) [
    | inl e ↦ elim (kind y) [
      | inl g ↦ plain_at x (stage y) e same ∙ sym g
      | inr rest ↦ elim rest [
        | inl g ↦ absurd (m (plain_at x 1 e (same ∙ ap stage g.1)))
        | inr g ↦ absurd (m (plain_at x 8 e (same ∙ ap stage g.2 ∙ stage_named g.0 g.1 g.3)))
      ]
    ]
    | inr first ↦ elim first [
      | inl e ↦ elim (kind y) [
        | inl g ↦ absurd (n (plain_at y 1 g (sym same ∙ ap stage e.1)))
        | inr rest ↦ elim rest [
          | inl g ↦
              let at = header_fault_once e.0 g.0 (subst (λ (z : OpenFault). IsReason z c row) e.1 p)
              (subst (λ (z : OpenFault). IsReason z c row) g.1 q) in
              e.1 ∙ ap (λ z. f.HeaderFault z) at ∙ sym g.1
          | inr g ↦ absurd (apart x y e.0 e.1 g same)
        ]
      ]
      | inr e ↦ elim (kind y) [
        | inl g ↦ absurd (n (plain_at y 8 g (sym same ∙ ap stage e.2 ∙ stage_named e.0 e.1 e.3)))
        | inr rest ↦ elim rest [
          | inl g ↦ absurd (apart y x g.0 g.1 e (sym same))
          | inr g ↦
              let a = reason_named c row e.0 e.1 e.3 (subst (λ (z : OpenFault). IsReason z c row) e.2 p) in
              let b = reason_named c row g.0 g.1 g.3 (subst (λ (z : OpenFault). IsReason z c row) g.2 q) in
              let one = field_reason_once c row e.0 g.0 e.3 g.3 e.1 g.1 a b in
              e.2 ∙ ap (λ z. named_by z e.1) one.0 ∙ ap (λ z. named_by g.0 z) one.1 ∙ sym g.2
        ]
      ]
    ]
  ]

  pub reason_once : (x y : OpenFault) → (x ≡ f.Memory → ⊥) → (y ≡ f.Memory → ⊥) → IsReason x c row →
      IsReason y c row → x ≡ y
  reason_once x y m n p q = elim (side (stage x) (stage y)) [
    | inl lt ↦ absurd (none_earlier c row x y p q lt (most y n))
    | inr rest ↦ elim rest [
      | inl lt ↦ absurd (none_earlier c row y x q p lt (most x m))
      | inr same ↦ same_stage x y m n p q same
    ]
  ]
