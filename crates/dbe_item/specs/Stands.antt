-- Which row stands for an item (this project's own).
use Rattle.std.specs.Prelude.{◌≡◌, ℕ, Bool, true, false, List, map, filter}
use Rattle.dbe_values.specs.Keys.{key_of, has_key}
use Rattle.dbe_values.specs.declared.value.AttrValue.{AttrValue}
use Rattle.dbe_config.specs.Setting.{Setting}
use Rattle.dbe_config.specs.Rules.{is_empty_list}
use Rattle.dbe_frame.specs.Header.{HeaderParts}
use Rattle.dbe_frame.specs.Signed.{signed_names}
use Rattle.dbe_item.specs.Names.{legend_byte, is_beacon_name}
use Rattle.dbe_item.specs.Opens.{Opens, HasHeader}
use Rattle.dbe_item.specs.Sealed.{sealed_row}

abbrev pub beacons_of : List (List ℕ × AttrValue) → List (List ℕ × AttrValue)
beacons_of row = filter (λ a. is_beacon_name a.0) row

-- The row opens to the item, a stored field for each attribute that the configuration encrypts and for no other, and
-- has these beacon attributes.
pub record StandsSealed (c : Setting) (beacons row item : List (List ℕ × AttrValue)) : Type 0 where
  pub place : ℕ
  pub opens : Opens c row item place
  pub header : HeaderParts
  pub has : HasHeader row header
  pub legend : header.legend ≡ map (legend_byte c) (signed_names c row)
  pub beacons_stored : beacons_of row ≡ beacons

abbrev pub StandsBy : Bool → Setting → List (List ℕ × AttrValue) → List (List ℕ × AttrValue) →
    List (List ℕ × AttrValue) → Type 0
StandsBy true c beacons row item = row ≡ item
StandsBy false c beacons row item = StandsSealed c beacons row item

-- a row stands for an item with its beacon attributes; over a plain table for the item that it is
abbrev pub StandsFor : Setting → List (List ℕ × AttrValue) → List (List ℕ × AttrValue) → List (List ℕ × AttrValue) →
    Type 0
StandsFor c beacons row item = StandsBy (is_empty_list c.recipients) c beacons row item

-- a sealed row stands for its item, opens to it by the first encrypted data key, and has the item's key
pub record SealsToStand (c : Setting) (drawn : List ℕ) (beacons item : List (List ℕ × AttrValue)) : Type 0 where
  pub stands : StandsFor c beacons (sealed_row c drawn beacons item) item
  pub opens : Opens c (sealed_row c drawn beacons item) item 0
  pub same_key : key_of c.schema (sealed_row c drawn beacons item) ≡ key_of c.schema item
  pub has_same_key : has_key c.schema (sealed_row c drawn beacons item) ≡ has_key c.schema item
