-- What is found of a row is found once.
use Rattle.std.proofs.Common.{◌≡◌, ℕ, zero, suc, List, [], ◌∷◌, length, Some, refl, sym, ap, ◌∙◌, subst, inl, inr}
use Rattle.std.specs.List.{AllByRecursion}
use Rattle.std.proofs.lemmas.List.Elements.{recursion_from_All}
use Rattle.dbe_values.specs.Val as v
use Rattle.dbe_values.specs.View.{view}
use Rattle.dbe_values.specs.declared.value.AttrValue.{AttrValue, B}
use Rattle.dbe_values.proofs.Unviewed.{view-attr_of}
use Rattle.dbe_config.specs.Setting.{Setting}
use Rattle.dbe_config.specs.declared.recipient.Recipient.{Recipient}
use Rattle.dbe_config.specs.declared.recipient.Recipient.TheVariants as recipient
use Rattle.dbe_rawring.specs.Edk.{EdkParts}
use Rattle.dbe_rawring.proofs.Rings.{data_key_is, signing_is}
use Rattle.dbe_frame.specs.Header.{HeaderParts, IsHeader}
use Rattle.dbe_frame.specs.Footer.{AreTags}
use Rattle.dbe_frame.proofs.Headers.{header_unique}
use Rattle.dbe_frame.proofs.Tags.{footer_unique}
use Rattle.dbe_item.specs.Names.{head_name, foot_name}
use Rattle.dbe_item.specs.Sealed.{raw_ring}
use Rattle.dbe_item.specs.Opens.{RecipientUnwraps, UnwrapsNothing, FirstUnwraps, Seeks, HasBinary, HasHeader, HasFooter}
use Rattle.dbe_item.specs.Opens.{Found, IsFound, row_context}

-- ---- binary attributes

pub same_binary : (x y : List ℕ) → B x ≡ B y → x ≡ y
same_binary x y e =
    let same : v.binary x ≡ v.binary y = sym (view-attr_of (v.binary x)) ∙ ap view e ∙ view-attr_of (v.binary y) in cc

pub same_some : {A : Type 0} (x y : A) → Some x ≡ Some y → x ≡ y
same_some x y e = cc

pub one_binary : (name : List ℕ) (row : List (List ℕ × AttrValue)) (x y : List ℕ) → HasBinary name row x →
    HasBinary name row y → x ≡ y
one_binary name row x y e f = same_binary x y (same_some (B x) (B y) (sym e ∙ f))

pub header_once : (row : List (List ℕ × AttrValue)) (a b : HeaderParts) → HasHeader row a → HasHeader row b → a ≡ b
header_once row a b p q = header_unique a b p.bytes p.is
    (subst (λ x. IsHeader b x) (one_binary head_name row q.bytes p.bytes q.stored p.stored) q.is)

footer_once : (row : List (List ℕ × AttrValue)) (n : ℕ) (a b : List (List ℕ)) → HasFooter row n a →
    HasFooter row n b → a ≡ b
footer_once row n a b p q = footer_unique n a b p.bytes p.are
    (subst (λ x. AreTags n b x) (one_binary foot_name row q.bytes p.bytes q.stored p.stored) q.are)

-- ---- the data key

module _ (context : List ℕ) (edk : EdkParts) (a b s t : List ℕ) where
  one_unwraps : (r : Recipient) → RecipientUnwraps r context edk a s → RecipientUnwraps r context edk b t →
      (a ≡ b) × (s ≡ t)
  one_unwraps (recipient.Raw namespace name key) u w =
      let ring = raw_ring namespace name key in (
        data_key_is ring context edk a s u ∙ sym (data_key_is ring context edk b t w),
        signing_is ring context edk a s u ∙ sym (signing_is ring context edk b t w),
      )
  one_unwraps (recipient.Branch branch) u w = absurd u

  first_once : (rs : List Recipient) → FirstUnwraps rs context edk a s → FirstUnwraps rs context edk b t →
      (a ≡ b) × (s ≡ t)
  first_once [] u w = absurd u
  first_once (r ∷ rs) u w = elim u [
    | inl x ↦ elim w [
      | inl y ↦ one_unwraps r x y
      | inr y ↦ absurd (y.0 a s x)
    ]
    | inr x ↦ elim w [
      | inl y ↦ absurd (x.0 b t y)
      | inr y ↦ first_once rs x.1 y.1
    ]
  ]

-- where a recipient unwraps, not all unwrap nothing
some_unwraps : (context : List ℕ) (edk : EdkParts) (a s : List ℕ) (rs : List Recipient) →
    FirstUnwraps rs context edk a s → AllByRecursion (UnwrapsNothing context edk) rs → ⊥
some_unwraps context edk a s [] u none = u
some_unwraps context edk a s (r ∷ rs) u none = elim u [
  | inl x ↦ none.0 a s x
  | inr x ↦ some_unwraps context edk a s rs x.1 none.1
]

module _ (rs : List Recipient) (context a b s t : List ℕ) where
  seeks_once : (edks : List EdkParts) (i j : ℕ) → Seeks rs context edks i a s → Seeks rs context edks j b t →
      (i ≡ j) × ((a ≡ b) × (s ≡ t))
  seeks_once [] i j u w = absurd u
  seeks_once (edk ∷ edks) zero zero u w = (refl, first_once context edk a b s t rs u w)
  seeks_once (edk ∷ edks) zero (suc j) u w =
      absurd (some_unwraps context edk a s rs u (recursion_from_All (UnwrapsNothing context edk) rs w.0))
  seeks_once (edk ∷ edks) (suc i) zero u w =
      absurd (some_unwraps context edk b t rs w (recursion_from_All (UnwrapsNothing context edk) rs u.0))
  seeks_once (edk ∷ edks) (suc i) (suc j) u w =
      let rest = seeks_once edks i j u.1 w.1 in (ap suc rest.0, rest.1)

-- ---- all that is found

abbrev found_as : HeaderParts → List (List ℕ) → ℕ → List ℕ → List ℕ → Found
found_as header tags place data_key signing = record {
  header = header;
  tags = tags;
  place = place;
  data_key = data_key;
  signing = signing;
}

same_found : (f g : Found) → f.header ≡ g.header → f.tags ≡ g.tags → f.place ≡ g.place → f.data_key ≡ g.data_key →
    f.signing ≡ g.signing → f ≡ g
same_found f g h t p d s =
    ap (λ x. found_as x f.tags f.place f.data_key f.signing) h
    ∙ ap (λ x. found_as g.header x f.place f.data_key f.signing) t
    ∙ ap (λ x. found_as g.header g.tags x f.data_key f.signing) p
    ∙ ap (λ x. found_as g.header g.tags g.place x f.signing) d
    ∙ ap (λ x. found_as g.header g.tags g.place g.data_key x) s

pub found_once : (c : Setting) (row : List (List ℕ × AttrValue)) (f g : Found) → IsFound c row f → IsFound c row g →
    f ≡ g
found_once c row f g p q =
    let header = header_once row f.header g.header p.framed.header q.framed.header in
    let footer = subst (λ (x : HeaderParts). HasFooter row (length x.edks) g.tags) (sym header) q.framed.footer in
    let tags = footer_once row (length f.header.edks) f.tags g.tags p.framed.footer footer in
    let seeks = subst (λ (x : HeaderParts). Seeks c.recipients (row_context c row x) x.edks g.place g.data_key
    g.signing) (sym header) q.seeks in
    let keys = seeks_once c.recipients (row_context c row f.header) f.data_key g.data_key f.signing g.signing
    f.header.edks f.place g.place p.seeks seeks in
    same_found f g header tags keys.0 keys.1.0 keys.1.1
