-- A row opens to one item.
use Rattle.std.proofs.Common.{◌≡◌, ℕ, Bool, true, false, List, [], ◌∷◌, refl, sym, ap, ◌∙◌, subst, bytes_eq}
use Rattle.std.specs.List.{AllZip, list_any}
use Rattle.dbe_values.specs.View.{view, attr_of}
use Rattle.dbe_values.specs.declared.value.AttrValue.{AttrValue}
use Rattle.dbe_values.proofs.Unviewed.{attr_of-view}
use Rattle.dbe_canon.specs.Path.{path_of}
use Rattle.dbe_config.specs.Setting.{Setting}
use Rattle.dbe_config.specs.Rules.{is_empty_list}
use Rattle.dbe_itemkeys.specs.Field.{IsField}
use Rattle.dbe_itemkeys.proofs.Sealed.{one_value}
use Rattle.dbe_item.specs.Names.{number_of, strip}
use Rattle.dbe_item.specs.Opens.{ValueOpens, AttributeOpens, AttributesOpen, Found, OpensBy, OpensSealed, Opens}
use Rattle.dbe_item.specs.Opens.{opened_names, opened_root}
use Rattle.dbe_item.specs.Stands.{StandsBy, StandsFor}
use Rattle.dbe_item.proofs.LawsFound.{same_binary, found_once}

abbrev Attribute : Type 0
Attribute = List ℕ × AttrValue

pub same_value : (x y : AttrValue) → view x ≡ view y → x ≡ y
same_value x y e = sym (attr_of-view x) ∙ ap attr_of e ∙ attr_of-view y

module _ (c : Setting) (root : List ℕ) where
  value_once : (b : Bool) (k : ℕ) (name : List ℕ) (stored x y : AttrValue) → ValueOpens b c root k name stored x →
      ValueOpens b c root k name stored y → x ≡ y
  value_once true k name stored x y p q =
      let path = path_of c.table name in
      let same = same_binary q.0 p.0 (sym q.1 ∙ p.1) in
      same_value x y (one_value root k path p.0 (view x) (view y) p.2
      (subst (λ z. IsField root k path z (view y)) same q.2))
  value_once false k name stored x y p q = p ∙ sym q

  -- what an attribute opens to has its name
  pub named : (names : List (List ℕ)) (stored a : Attribute) → AttributeOpens c root names stored a →
      ValueOpens (list_any (bytes_eq stored.0) names) c root (number_of stored.0 names) stored.0 stored.1 a.1
  named names stored a p =
      subst (λ n. ValueOpens (list_any (bytes_eq n) names) c root (number_of n names) n stored.1 a.1) p.0 p.1

  attribute_once : (names : List (List ℕ)) (stored a b : Attribute) → AttributeOpens c root names stored a →
      AttributeOpens c root names stored b → a ≡ b
  attribute_once names stored a b p q =
      let value = value_once (list_any (bytes_eq stored.0) names) (number_of stored.0 names) stored.0 stored.1 a.1 b.1
      (named names stored a p) (named names stored b q) in
      let pair : List ℕ → AttrValue → Attribute = λ n x. (n, x) in
      ap (λ n. pair n a.1) (p.0 ∙ sym q.0) ∙ ap (λ x. pair b.0 x) value

  attributes_once : (names : List (List ℕ)) (row a b : List Attribute) → AllZip (AttributeOpens c root names) row a →
      AllZip (AttributeOpens c root names) row b → a ≡ b
  attributes_once names [] [] [] p q = refl
  attributes_once names [] [] (y ∷ b) p q = absurd q
  attributes_once names [] (x ∷ a) b p q = absurd p
  attributes_once names (r ∷ row) [] b p q = absurd p
  attributes_once names (r ∷ row) (x ∷ a) [] p q = absurd q
  attributes_once names (r ∷ row) (x ∷ a) (y ∷ b) p q =
      let cons : Attribute → List Attribute → List Attribute = λ u us. u ∷ us in
      ap (λ u. cons u a) (attribute_once names r x y p.0 q.0) ∙ ap (cons y) (attributes_once names row a b p.1 q.1)

module _ (c : Setting) (row a b : List Attribute) (i j : ℕ) where
  sealed_once : OpensSealed c row a i → OpensSealed c row b j → (a ≡ b) × (i ≡ j)
  sealed_once p q =
      let by = found_once c row p.by q.by p.signed.found q.signed.found in
      let other : AttributesOpen c row p.by b =
      subst (λ (f : Found). AttributesOpen c row f b) (sym by) q.attributes in (
        attributes_once c (opened_root p.by) (opened_names c row p.by.header) (strip row) a b p.attributes other,
        sym p.place_found ∙ ap (λ (f : Found). f.place) by ∙ q.place_found,
      )

  once_by : (plain : Bool) → OpensBy plain c row a i → OpensBy plain c row b j → (a ≡ b) × (i ≡ j)
  once_by true p q = (p.0 ∙ sym q.0, p.1 ∙ sym q.1)
  once_by false p q = sealed_once p q

  pub opens_once : Opens c row a i → Opens c row b j → (a ≡ b) × (i ≡ j)
  opens_once p q = once_by (is_empty_list c.recipients) p q

stands_by : (plain : Bool) (c : Setting) (beacons others row a b : List Attribute) → StandsBy plain c beacons row a →
    StandsBy plain c others row b → a ≡ b
stands_by true c beacons others row a b p q = sym p ∙ q
stands_by false c beacons others row a b p q = (opens_once c row a b p.place q.place p.opens q.opens).0

pub stands_once : (c : Setting) (beacons others row a b : List Attribute) → StandsFor c beacons row a →
    StandsFor c others row b → a ≡ b
stands_once c beacons others row a b p q = stands_by (is_empty_list c.recipients) c beacons others row a b p q
