-- Attributes read one after another, and the first fault among them.
use Rattle.std.proofs.Common.{◌≡◌, ◌≢◌, ℕ, List, [], ◌∷◌, ◌++◌, Result, Ok, Err, String, string_bytes, Global, refl}
use Rattle.std.proofs.Common.{sym, ap, ◌∙◌, subst}
use Rattle.std.specs.Prelude.{map}
use Rattle.serde_json.specs.View.{view as data_of, members_view}
use Rattle.serde_json.specs.declared.value.Value.{Value}
use Rattle.dbe_values.specs.Val as v
use Rattle.dbe_values.specs.Val.{Val, Entries}
use Rattle.dbe_values.specs.View.{view, entries_of, entry_view}
use Rattle.dbe_values.specs.declared.value.AttrValue.{AttrValue}
use Rattle.dbe_values.specs.Faults.{Fails}
use Rattle.dbe_values.specs.Items.{attribute_in, attributes_in, then_attribute, GivesItem, IsAt}
use Rattle.dbe_values.specs.declared.fault.ValueFault.{ValueFault}
use Rattle.dbe_values.specs.declared.fault.ValueFault.TheVariants.{Shape, BadNumber, BadBase64, EmptySet}
use Rattle.dbe_values.specs.declared.fault.ValueFault.TheVariants.{DoubledElement, TooDeep, BadName, Memory}
use Rattle.dbe_values.specs.declared.fault.ItemFault.{ItemFault}
use Rattle.dbe_values.specs.declared.fault.ItemFault.TheVariants.{NotObject, At}
use Rattle.dbe_values.proofs.ReadValues.{entries_onto}

abbrev pub after_attributes : List (List ℕ × Val) → Result Entries ItemFault → Result Entries ItemFault
after_attributes front (Ok es) = Ok (entries_onto front es)
after_attributes front (Err f) = Err f

after_none : (r : Result Entries ItemFault) → after_attributes [] r ≡ r
after_none (Ok es) = refl
after_none (Err f) = refl

pub attributes_begin : (item : List (List ℕ × AttrValue)) (r : Result Entries ItemFault) → item ≡ [] →
    after_attributes (map entry_view item) r ≡ r
attributes_begin item r e = ap (λ x. after_attributes (map entry_view x) r) e ∙ after_none r

onto_more : (front : List (List ℕ × AttrValue)) (x : List ℕ × AttrValue) (es : Entries) →
    entries_onto (map entry_view (front ++ x ∷ [])) es ≡ entries_onto (map entry_view front) (v.entry x.0 (view x.1) es)
onto_more [] x es = refl
onto_more (y ∷ front) x es = ap (v.entry y.0 (view y.1)) (onto_more front x es)

after_more : (front : List (List ℕ × AttrValue)) (x : List ℕ × AttrValue) (r : Result Entries ItemFault) →
    after_attributes (map entry_view (front ++ x ∷ [])) r ≡ after_attributes (map entry_view front)
    (then_attribute x.0 (Ok (view x.1)) r)
after_more front x (Ok es) = ap Ok (onto_more front x es)
after_more front x (Err f) = refl

onto_none : (front : List (List ℕ × Val)) → entries_onto front v.no_entries ≡ entries_of front
onto_none [] = refl
onto_none (x ∷ front) = ap (v.entry x.0 x.1) (onto_none front)

pub attributes_step : (es others : List (String Global × Value)) (e : String Global ×
    Value) (front more : List (List ℕ × AttrValue)) (name : List ℕ) (x : AttrValue) (all : Result Entries ItemFault) →
    es ≡ e ∷ others → name ≡ string_bytes e.0 → more ≡ front ++ (name, x) ∷ [] →
    attribute_in name (data_of e.1) ≡ Ok (view x)
    → after_attributes (map entry_view front) (attributes_in (members_view es)) ≡ all →
    after_attributes (map entry_view more) (attributes_in (members_view others)) ≡ all
attributes_step es others e front more name x all next named pushed read so_far =
    let whole : attributes_in (members_view es) ≡ then_attribute name (Ok (view x))
    (attributes_in (members_view others)) =
    ap (λ y. attributes_in (members_view y)) next ∙
    ap (λ y. then_attribute y (attribute_in y (data_of e.1)) (attributes_in (members_view others))) (sym named) ∙
    ap (λ y. then_attribute name y (attributes_in (members_view others))) read in
    ap (λ y. after_attributes (map entry_view y) (attributes_in (members_view others))) pushed
    ∙ after_more front (name, x) (attributes_in (members_view others))
    ∙ ap (after_attributes (map entry_view front)) (sym whole)
    ∙ so_far

pub attributes_end : (es : List (String Global × Value)) (front : List (List ℕ × AttrValue))
    (all : Result Entries ItemFault) → es ≡ [] →
    after_attributes (map entry_view front) (attributes_in (members_view es)) ≡ all →
    all ≡ Ok (entries_of (map entry_view front))
attributes_end es front all none so_far =
    sym so_far ∙ ap (λ y. after_attributes (map entry_view front) (attributes_in (members_view y))) none ∙
    ap Ok (onto_none (map entry_view front))

-- ---- a fault

fault_is : (r : Result Val ValueFault) (w : ValueFault) → w ≢ Memory → Fails w r → r ≡ Err w
fault_is r Memory n h = absurd (n refl)
fault_is r Shape n h = h
fault_is r BadNumber n h = h
fault_is r BadBase64 n h = h
fault_is r EmptySet n h = h
fault_is r DoubledElement n h = h
fault_is r TooDeep n h = h
fault_is r BadName n h = h

name_of : ItemFault → List ℕ
name_of NotObject = []
name_of (At name why) = name

why_of : ItemFault → ValueFault
why_of NotObject = Memory
why_of (At name why) = why

module _ (es others : List (String Global × Value)) (e : String Global × Value) (front : List (List ℕ × AttrValue))
    (name : List ℕ) (why : ValueFault) (all : Result Entries ItemFault) (next : es ≡ e ∷ others)
    (named : name ≡ string_bytes e.0) (failed : Fails why (attribute_in name (data_of e.1)))
    (so_far : after_attributes (map entry_view front) (attributes_in (members_view es)) ≡ all) where
  settled : (there : List ℕ) (w : ValueFault) → w ≢ Memory → At there w ≡ At name why → all ≡ Err (At there w)
  unfolding name_of why_of
  settled there w n is =
      let same : there ≡ name = ap name_of is in
      let kind : w ≡ why = ap why_of is in
      let read : attribute_in name (data_of e.1) ≡ Err w =
      fault_is (attribute_in name (data_of e.1)) w n
      (subst (λ (x : ValueFault). Fails x (attribute_in name (data_of e.1))) (sym kind) failed) in
      let whole : attributes_in (members_view es) ≡ Err (At name w) =
      ap (λ y. attributes_in (members_view y)) next ∙
      ap (λ y. then_attribute y (attribute_in y (data_of e.1)) (attributes_in (members_view others))) (sym named)
      ∙ ap (λ y. then_attribute name y (attributes_in (members_view others))) read in
      sym so_far ∙ ap (after_attributes (map entry_view front)) whole ∙ ap (λ y. Err (At y w)) (sym same)

  pub item_fails : (fault : ItemFault) → IsAt fault name why → GivesItem (Err fault) all
  item_fails NotObject h = absurd h
  item_fails (At there Memory) h = tt
  item_fails (At there Shape) h = settled there Shape (λ q. cc) h
  item_fails (At there BadNumber) h = settled there BadNumber (λ q. cc) h
  item_fails (At there BadBase64) h = settled there BadBase64 (λ q. cc) h
  item_fails (At there EmptySet) h = settled there EmptySet (λ q. cc) h
  item_fails (At there DoubledElement) h = settled there DoubledElement (λ q. cc) h
  item_fails (At there TooDeep) h = settled there TooDeep (λ q. cc) h
  item_fails (At there BadName) h = settled there BadName (λ q. cc) h
