-- What a row has once a header, a footer and beacon attributes were put.
use Rattle.std.proofs.Common.{◌≡◌, ℕ, Bool, true, false, not, ◌&&◌, List, filter, Some, bytes_eq}
use Rattle.std.proofs.Common.{refl, sym, ap, ◌∙◌}
use Rattle.std.specs.List.{AllByRecursion}
use Rattle.std.proofs.lemmas.Slice.Eq.{bytes_eq-Decides}
use Rattle.dbe_values.specs.Attributes.{value_at, put_at}
use Rattle.dbe_values.specs.Lawful.{names_of}
use Rattle.dbe_values.specs.declared.value.AttrValue.{AttrValue}
use Rattle.dbe_config.specs.Actions.{is_reserved}
use Rattle.dbe_frame.proofs.Sorting.{weaken}
use Rattle.dbe_item.specs.Names.{head_name, foot_name, is_beacon_name}
use Rattle.dbe_item.specs.Sealed.{put_all}
use Rattle.dbe_item.proofs.SealsPut.{Attribute, found_put, value_kept, kept_put, names_put, value_kept_by_all}
use Rattle.dbe_item.proofs.SealsPut.{kept_by_all}
use Rattle.dbe_item.proofs.SealsPut.{names_by_all}
use Rattle.dbe_item.proofs.SealsBeacons.{Rises, rises_put, all_put, kept_is}

-- ---- names that dbe keeps for itself

both : (a b d : Bool) → (a && not b && not d) ≡ true → (a ≡ true) × ((b ≡ false) × (d ≡ false))
both true false false e = (refl, (refl, refl))
both true false true e = absurd cc
both true true d e = absurd cc
both false b d e = absurd cc

beacon_parts : (name : List ℕ) → is_beacon_name name ≡ true →
    (is_reserved name ≡ true) × ((bytes_eq name head_name ≡ false) × (bytes_eq name foot_name ≡ false))
beacon_parts name e = both (is_reserved name) (bytes_eq name head_name) (bytes_eq name foot_name) e

unreserved_by : (a b d : Bool) → a ≡ false → (a && not b && not d) ≡ false
unreserved_by false b d e = refl
unreserved_by true b d e = absurd cc

pub no_beacon : (name : List ℕ) → is_reserved name ≡ false → is_beacon_name name ≡ false
no_beacon name e = unreserved_by (is_reserved name) (bytes_eq name head_name) (bytes_eq name foot_name) e

differ_by : (x y : List ℕ) (b : Bool) → bytes_eq x y ≡ b → is_reserved x ≡ true → is_reserved y ≡ false → b ≡ false
differ_by x y false e p q = refl
differ_by x y true e p q =
    let is : x ≡ y = (bytes_eq-Decides x y).0 e in
    let wrong : true ≡ false = sym p ∙ ap is_reserved is ∙ q in absurd cc

pub differ : (x y : List ℕ) → is_reserved x ≡ true → is_reserved y ≡ false → bytes_eq x y ≡ false
differ x y p q = differ_by x y (bytes_eq x y) refl p q

head_reserved : is_reserved head_name ≡ true
head_reserved = refl

foot_reserved : is_reserved foot_name ≡ true
foot_reserved = refl

-- ---- the row

abbrev pub framed : AttrValue → AttrValue → List Attribute → List Attribute → List Attribute
framed head foot beacons base = put_all beacons (put_at foot_name foot (put_at head_name head base))

abbrev pub AreBeacons : List Attribute → Type 0
AreBeacons = AllByRecursion (λ (a : Attribute). is_beacon_name a.0 ≡ true)

module _ (head foot : AttrValue) (beacons base : List Attribute) (are : AreBeacons beacons) where
  module _ (keep : List ℕ → Bool) (unkept : (name : List ℕ) → is_reserved name ≡ true → keep name ≡ false) where
    none : AllByRecursion (λ (a : Attribute). keep a.0 ≡ false) beacons
    none = weaken (λ (a : Attribute). is_beacon_name a.0 ≡ true) (λ (a : Attribute). keep a.0 ≡ false)
        (λ a h. unkept a.0 (beacon_parts a.0 h).0) beacons are

    -- a test that reserved names fail keeps the same attributes
    pub kept_framed : filter (λ (x : Attribute). keep x.0) (framed head foot beacons base)
        ≡ filter (λ (x : Attribute). keep x.0) base
    kept_framed =
        kept_by_all keep beacons (put_at foot_name foot (put_at head_name head base)) none
        ∙ kept_put foot_name foot keep (unkept foot_name foot_reserved) (put_at head_name head base)
        ∙ kept_put head_name head keep (unkept head_name head_reserved) base

    pub names_framed : filter keep (names_of (framed head foot beacons base)) ≡ filter keep (names_of base)
    names_framed =
        names_by_all keep beacons (put_at foot_name foot (put_at head_name head base)) none
        ∙ names_put foot_name foot keep (unkept foot_name foot_reserved) (put_at head_name head base)
        ∙ names_put head_name head keep (unkept head_name head_reserved) base

  -- a name that dbe does not keep for itself has its value
  pub value_framed : (name : List ℕ) → is_reserved name ≡ false →
      value_at name (framed head foot beacons base) ≡ value_at name base
  value_framed name clear =
      value_kept_by_all name beacons (put_at foot_name foot (put_at head_name head base))
      (weaken (λ (a : Attribute). is_beacon_name a.0 ≡ true) (λ (a : Attribute). bytes_eq a.0 name ≡ false)
      (λ a h. differ a.0 name (beacon_parts a.0 h).0 clear) beacons are)
      ∙ value_kept foot_name foot name (differ foot_name name foot_reserved clear) (put_at head_name head base)
      ∙ value_kept head_name head name (differ head_name name head_reserved clear) base

  pub head_framed : value_at head_name (framed head foot beacons base) ≡ Some head
  head_framed =
      value_kept_by_all head_name beacons (put_at foot_name foot (put_at head_name head base))
      (weaken (λ (a : Attribute). is_beacon_name a.0 ≡ true) (λ (a : Attribute). bytes_eq a.0 head_name ≡ false)
      (λ a h. (beacon_parts a.0 h).1.0) beacons are)
      ∙ value_kept foot_name foot head_name refl (put_at head_name head base)
      ∙ found_put head_name head base

  pub foot_framed : value_at foot_name (framed head foot beacons base) ≡ Some foot
  foot_framed =
      value_kept_by_all foot_name beacons (put_at foot_name foot (put_at head_name head base))
      (weaken (λ (a : Attribute). is_beacon_name a.0 ≡ true) (λ (a : Attribute). bytes_eq a.0 foot_name ≡ false)
      (λ a h. (beacon_parts a.0 h).1.1) beacons are)
      ∙ found_put foot_name foot (put_at head_name head base)

  -- its beacon attributes are those that were put
  pub beacons_framed : Rises base → Rises beacons → AllByRecursion (λ (a : Attribute). is_reserved a.0 ≡ false) base →
      filter (λ (a : Attribute). is_beacon_name a.0) (framed head foot beacons base) ≡ beacons
  beacons_framed up rise clear =
      let P : Attribute → Type 0 = λ a. is_beacon_name a.0 ≡ false in
      let unmarked : AllByRecursion P base = weaken (λ (a : Attribute). is_reserved a.0 ≡ false) P
      (λ a h. no_beacon a.0 h) base clear in
      kept_is is_beacon_name beacons (put_at foot_name foot (put_at head_name head base))
      (rises_put foot_name foot (put_at head_name head base) (rises_put head_name head base up)) rise are
      (all_put foot_name foot P (put_at head_name head base) refl (all_put head_name head P base refl unmarked))
