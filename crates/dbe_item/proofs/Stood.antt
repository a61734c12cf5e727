-- Rows that stand for an item: their keys, and the sealed row.
use Rattle.std.proofs.Common.{◌≡◌, ℕ, Bool, true, false, List, [], length}
use Rattle.std.proofs.Common.{map, Some, None, refl, sym, ap, ◌∙◌, subst, arith}
use Rattle.std.specs.Prelude.{bytes_eq}
use Rattle.std.specs.List.{list_any}
use Rattle.std.proofs.lemmas.List.Elements.{All-nil}
use Rattle.dbe_values.specs.Attributes.{value_at}
use Rattle.dbe_values.specs.Keys.{row_key, key_of, key_or_none, has_key}
use Rattle.dbe_values.specs.Lawful.{IsLawfulItem, IsLawfulAttribute}
use Rattle.dbe_values.specs.declared.value.AttrValue.{AttrValue}
use Rattle.dbe_config.specs.Actions.{is_key}
use Rattle.dbe_config.specs.Rules.{is_empty_list}
use Rattle.dbe_config.specs.Setting.{Setting}
use Rattle.dbe_frame.specs.Header.{HeaderParts}
use Rattle.dbe_frame.specs.Signed.{signed_names}
use Rattle.dbe_frame.specs.Sizes.{signed_only}
use Rattle.dbe_item.specs.Acceptance.{put_fault}
use Rattle.dbe_item.specs.Names.{is_encrypted_name, legend_byte, is_beacon_name, marked, number_of, strip}
use Rattle.dbe_item.specs.Opens.{ValueOpens, OpensBy, OpensSealed, legend_of, opened_names, opened_root}
use Rattle.dbe_item.specs.Ruled.{IsSealing}
use Rattle.dbe_item.specs.Sealed.{draw_length, sealed_row}
use Rattle.dbe_item.specs.Stands.{StandsBy, StandsFor, SealsToStand}
use Rattle.dbe_item.proofs.LawsFields.{opens_at}
use Rattle.dbe_item.proofs.LawsFound.{header_once}
use Rattle.dbe_item.proofs.LawsNames.{has_byte, signed_there, has_value, value_stripped}
use Rattle.dbe_item.proofs.SealedRow.{accepted_key}
use Rattle.dbe_item.proofs.SealsAccepted.{same_key}
use Rattle.dbe_item.proofs.SealsFields.{marked_is, apart_kept}
use Rattle.dbe_item.proofs.SealsRow.{partition_is_key, sort_is_key, both_some, key_clear}
use Rattle.dbe_item.proofs.SealsStand.{seals_all}

abbrev Attribute : Type 0
Attribute = List ℕ × AttrValue

-- ---- the key of a row that stands for an item

module _ (c : Setting) (row item : List Attribute) (i : ℕ) (o : OpensSealed c row item i)
    (legend_is : o.by.header.legend ≡ map (legend_byte c) (signed_names c row)) where
  -- a key attribute is not opened
  clear : (x : List ℕ) → is_key x c.schema ≡ true →
      list_any (bytes_eq x) (opened_names c row o.by.header) ≡ false
  clear x key =
      ap (λ (legend : List ℕ). list_any (bytes_eq x) (marked (signed_names c row) legend)) legend_is
      ∙ ap (list_any (bytes_eq x)) (marked_is c (signed_names c row))
      ∙ apart_kept (is_encrypted_name c) x (signed_names c row) (key_clear c x key)

  stays : (x : List ℕ) → legend_of c row o.by.header x ≡ signed_only → is_key x c.schema ≡ true →
      value_at x item ≡ value_at x row
  stays x e key =
      let h = o.by.header in
      let there = signed_there c row x (has_byte x (signed_names c row) h.legend o.signed.found.framed.legend e) in
      let stored = has_value x row there.named in
      let at = opens_at c (opened_root o.by) (opened_names c row h) x (strip row) item stored.0 o.attributes
      (value_stripped x row there.unreserved ∙ stored.1) in
      let opens : ValueOpens false c (opened_root o.by) (number_of x (opened_names c row h)) x stored.0 at.value =
      subst (λ b. ValueOpens b c (opened_root o.by) (number_of x (opened_names c row h)) x stored.0 at.value)
      (clear x key) at.opens in
      at.is ∙ ap (λ (v : AttrValue). Some v) opens ∙ sym stored.1

  one_key : row_key c.schema item ≡ row_key c.schema row
  one_key =
      let key = o.signed.found.framed.key in
      same_key c.schema row item (stays c.schema.partition.name key.partition (partition_is_key c.schema))
      (both_some c.schema.sort (λ s. legend_of c row o.by.header s.name ≡ signed_only)
      (λ s. is_key s.name c.schema ≡ true) (λ s. value_at s.name item ≡ value_at s.name row)
      (λ s e k. stays s.name e k) key.sort (sort_is_key c.schema))

key_by : (plain : Bool) (c : Setting) (beacons row item : List Attribute) → is_empty_list c.recipients ≡ plain →
    StandsBy plain c beacons row item → row_key c.schema item ≡ row_key c.schema row
key_by true c beacons row item is stands = ap (row_key c.schema) (sym stands)
key_by false c beacons row item is stands =
    let o : OpensSealed c row item stands.place = subst (λ b. OpensBy b c row item stands.place) is stands.opens in
    one_key c row item stands.place o (ap (λ (h : HeaderParts). h.legend) (header_once row o.by.header stands.header
    o.signed.found.framed.header stands.has) ∙ stands.legend)

-- a row that stands for an item has its key
pub stands_with_its_key : (c : Setting) (beacons row item : List Attribute) → StandsFor c beacons row item →
    key_of c.schema row ≡ key_of c.schema item
stands_with_its_key c beacons row item stands =
    ap key_or_none (sym (key_by (is_empty_list c.recipients) c beacons row item refl stands))

-- ---- the sealed row of an item without beacon attributes

no_attributes : IsLawfulItem []
no_attributes = record { increasing = λ i j lt le. absurd (omega (arith, le)); each = All-nil IsLawfulAttribute }

module _ (c : Setting) (drawn : List ℕ) (item : List Attribute) (sealing : IsSealing c)
    (encrypted : is_empty_list c.recipients ≡ false) (lawful : IsLawfulItem item) (fits : put_fault c item ≡ None)
    (drawn_is : length drawn ≡ draw_length c) where
  sealed : SealsToStand c drawn [] item
  sealed = seals_all c drawn [] item sealing.bounded sealing.few sealing.built encrypted lawful fits drawn_is
      no_attributes (All-nil (λ (a : Attribute). is_beacon_name a.0 ≡ true))

  pub sealed_stands : StandsFor c [] (sealed_row c drawn [] item) item
  sealed_stands = sealed.stands

  pub sealed_has_key : has_key c.schema (sealed_row c drawn [] item) ≡ true
  sealed_has_key = sealed.has_same_key ∙ accepted_key c item fits
