-- What a name of a row opens to.
use Rattle.std.proofs.Common.{◌≡◌, ℕ, suc, ◌<◌, Bool, true, false, cond, List, [], ◌∷◌}
use Rattle.std.proofs.Common.{slice_get, Some, None}
use Rattle.std.proofs.Common.{bytes_eq, refl, sym, ap, ◌∙◌, subst, arith}
use Rattle.std.specs.List.{AllZip, list_any}
use Rattle.std.proofs.lemmas.Option.{slice_get_within, get_or_from_slice_get}
use Rattle.dbe_values.specs.Attributes.{value_at}
use Rattle.dbe_values.specs.Lawful.{IsLawfulItem}
use Rattle.dbe_values.specs.View.{view}
use Rattle.dbe_values.specs.declared.value.AttrValue.{AttrValue}
use Rattle.dbe_canon.proofs.ReadLeaves.{same_bytes}
use Rattle.dbe_config.specs.Setting.{Setting}
use Rattle.dbe_itemkeys.specs.declared.fault.FieldFault.{FieldFault}
use Rattle.dbe_itemkeys.specs.declared.fault.FieldFault.TheVariants as field
use Rattle.dbe_frame.specs.Signed.{signed_names}
use Rattle.dbe_frame.proofs.Names.{names_strict}
use Rattle.dbe_item.specs.Names.{number_of, strip}
use Rattle.dbe_item.specs.Opens.{ValueOpens, AttributeOpens, AttributesOpen, Found, OpensSealed, OpensBy, Opens}
use Rattle.dbe_item.specs.Opens.{opened_names, opened_root}
use Rattle.dbe_item.specs.Reasons.{IsReason, HasField, IsFieldReason, IsSealedReason}
use Rattle.dbe_item.specs.declared.open_fault.OpenFault.{OpenFault}
use Rattle.dbe_item.specs.declared.open_fault.OpenFault.TheVariants as f
use Rattle.dbe_item.proofs.Searched.{numbered}
use Rattle.dbe_item.proofs.LawsFound.{same_some, found_once}
use Rattle.dbe_item.proofs.LawsStages.{stage, fewer, fails}
use Rattle.dbe_item.proofs.LawsReasons.{has_no_fault}
use Rattle.dbe_item.proofs.LawsNames.{marked_any, marked_sorted, signed_there, has_value, value_stripped}
use Rattle.dbe_item.proofs.LawsOpened.{named}

abbrev Attribute : Type 0
Attribute = List ℕ × AttrValue

module _ (c : Setting) (root : List ℕ) (names : List (List ℕ)) (x : List ℕ) where
  -- the value of a name, and what it opens to
  pub record OpensAt (stored : AttrValue) (item : List Attribute) : Type 0 where
    pub value : AttrValue
    pub is : value_at x item ≡ Some value
    pub opens : ValueOpens (list_any (bytes_eq x) names) c root (number_of x names) x stored value

  pub opens_at : (row item : List Attribute) (stored : AttrValue) → AllZip (AttributeOpens c root names) row item →
      value_at x row ≡ Some stored → OpensAt stored item
  opens_at [] item stored p e = let wrong : None ≡ Some stored = e in absurd cc
  opens_at (a ∷ row) [] stored p e = absurd p
  opens_at (a ∷ row) (b ∷ item) stored p e = by_test (opens_at row item stored p.1) (bytes_eq a.0 x) refl
    where
      test : bytes_eq b.0 x ≡ bytes_eq a.0 x
      test = ap (λ n. bytes_eq n x) p.0.0

      by_test : (value_at x row ≡ Some stored → OpensAt stored item) → (t : Bool) → bytes_eq a.0 x ≡ t →
          OpensAt stored (b ∷ item)
      by_test h true t =
          let same : a.1 ≡ stored = same_some a.1 stored
          (sym (ap (λ r. cond r (Some a.1) (value_at x row)) t) ∙ e) in
          let opens = named c root names a b p.0 in
          let here = subst (λ n. ValueOpens (list_any (bytes_eq n) names) c root (number_of n names) n a.1 b.1)
          (same_bytes a.0 x t) opens in
          record {
            value = b.1;
            is = ap (λ r. cond r (Some b.1) (value_at x item)) (test ∙ t);
            opens = subst (λ s. ValueOpens (list_any (bytes_eq x) names) c root (number_of x names) x s b.1) same here;
          }
      by_test h false t =
          let rest = h (sym (ap (λ r. cond r (Some a.1) (value_at x row)) t) ∙ e) in
          record {
            value = rest.value;
            is = ap (λ r. cond r (Some b.1) (value_at x item)) (test ∙ t) ∙ rest.is;
            opens = rest.opens;
          }

module _ (c : Setting) (row : List Attribute) (lawful : IsLawfulItem row) (by : Found) (item : List Attribute)
    (opens : AttributesOpen c row by item) where
  -- each encrypted name of a row that opens has a field
  pub has_field : (k : ℕ) (x : List ℕ) → slice_get (opened_names c row by.header) k ≡ Some x →
      HasField c row (opened_root by) k x
  has_field k x e =
      let names = opened_names c row by.header in
      let root = opened_root by in
      let number = numbered names x (marked_sorted (signed_names c row) by.header.legend (names_strict c row lawful)) k
      (slice_get_within names k x e) (get_or_from_slice_get names k x [] e) in
      let there = signed_there c row x (marked_any (bytes_eq x) (signed_names c row) by.header.legend number.2) in
      let stored = has_value x row there.named in
      let at = opens_at c root names x (strip row) item stored.0 opens
      (value_stripped x row there.unreserved ∙ stored.1) in
      let field : ValueOpens true c root k x stored.0 at.value =
      subst (λ b. ValueOpens b c root k x stored.0 at.value) number.2
      (subst (λ n. ValueOpens (list_any (bytes_eq x) names) c root n x stored.0 at.value) (sym number.0) at.opens) in
      (field.0, stored.1 ∙ ap (λ (v : AttrValue). Some v) field.1, (view at.value, field.2))

module _ (c : Setting) (row item : List Attribute) (i : ℕ) (lawful : IsLawfulItem row)
    (opens : OpensSealed c row item i) where
  opens_before : {A : Type 0} (x : OpenFault) → IsReason x c row → stage x < 8 → A
  opens_before x p lt =
      absurd (fails c row x p lt (fewer c row (suc (stage x)) 8 (omega arith) (omega arith) (opens.by, opens.signed)))

  field_opens : (fault : FieldFault) (name : List ℕ) → IsFieldReason fault c row name → fault ≡ field.Memory
  field_opens fault name p =
      let by = p.0 in
      let same = found_once c row opens.by by opens.signed.found p.1.found in
      let attributes = subst (λ (z : Found). AttributesOpen c row z item) same opens.attributes in
      let first = p.2 in
      has_no_fault c row (opened_root by) first.k name fault
      (has_field c row lawful by item attributes first.k name first.place) first.has

  sealed_opens : (x : OpenFault) → IsReason x c row → x ≡ f.Memory
  sealed_opens f.NoHeader p = opens_before f.NoHeader p (omega arith)
  sealed_opens (f.HeaderFault at) p = opens_before (f.HeaderFault at) p (omega arith)
  sealed_opens f.LegendLength p = opens_before f.LegendLength p (omega arith)
  sealed_opens f.KeyLegend p = opens_before f.KeyLegend p (omega arith)
  sealed_opens f.FooterLength p = opens_before f.FooterLength p (omega arith)
  sealed_opens f.NoRecipient p = opens_before f.NoRecipient p (omega arith)
  sealed_opens f.Commitment p = opens_before f.Commitment p (omega arith)
  sealed_opens f.RecipientTag p = opens_before f.RecipientTag p (omega arith)
  sealed_opens (f.FieldShape name) p = let wrong = field_opens field.Shape name p in absurd cc
  sealed_opens (f.FieldTag name) p = let wrong = field_opens field.Tag name p in absurd cc
  sealed_opens (f.NotCanonical name) p = let wrong = field_opens field.NotCanonical name p in absurd cc
  sealed_opens f.Memory p = refl

-- a row that opens has no reason not to
pub opens_freely : (c : Setting) (row item : List Attribute) (i : ℕ) (x : OpenFault) → IsLawfulItem row →
    Opens c row item i → IsSealedReason x c row → x ≡ f.Memory
opens_freely c row item i x lawful opens reason =
    sealed_opens c row item i lawful (subst (λ plain. OpensBy plain c row item i) reason.0 opens) x reason.1
