-- The sealed attributes of an item open to its attributes.
use Rattle.std.proofs.Common.{◌≡◌, ℕ, ◌<◌, ◌^◌, Bool, true, false, ◌||◌, cond, eqb, List, [], ◌∷◌, length}
use Rattle.std.proofs.Common.{map, filter, bytes_eq, refl, sym, ap, ◌∙◌, ap₂}
use Rattle.std.specs.List.{AllByRecursion, AllZip, list_any}
use Rattle.std.proofs.lemmas.Slice.Eq.{bytes_eq-Decides}
use Rattle.dbe_values.specs.View.{view}
use Rattle.dbe_values.specs.Lawful.{IsLawfulAttribute, names_of}
use Rattle.dbe_values.specs.declared.value.AttrValue.{B}
use Rattle.dbe_canon.specs.Canon.{canon_of}
use Rattle.dbe_canon.specs.Path.{path_of}
use Rattle.dbe_canon.proofs.ShortParts.{has_short_parts}
use Rattle.dbe_config.specs.Setting.{Setting}
use Rattle.dbe_itemkeys.specs.Field.{sealed_field}
use Rattle.dbe_item.specs.Names.{is_encrypted_name, legend_byte, marked, number_of}
use Rattle.dbe_item.specs.Opens.{AttributeOpens, ValueOpens}
use Rattle.dbe_item.specs.Sealed.{sealed_attribute}
use Rattle.dbe_item.proofs.SealsPut.{Attribute}

-- ---- the encrypted names

marked_step : (b : Bool) (name : List ℕ) (xs ys : List (List ℕ)) → xs ≡ ys →
    cond (eqb (cond b 101 115) 101) (name ∷ xs) xs ≡ cond b (name ∷ ys) ys
marked_step true name xs ys e = ap (λ zs. name ∷ zs) e
marked_step false name xs ys e = e

-- the legend marks the encrypted names
pub marked_is : (c : Setting) (names : List (List ℕ)) →
    marked names (map (legend_byte c) names) ≡ filter (is_encrypted_name c) names
marked_is c [] = refl
marked_is c (name ∷ names) =
    marked_step (is_encrypted_name c name) name (marked names (map (legend_byte c) names))
    (filter (is_encrypted_name c) names) (marked_is c names)

module _ (test : List ℕ → Bool) (name : List ℕ) where
  among_step : (b t : Bool) (x : List ℕ) (xs : List (List ℕ)) → test x ≡ t → bytes_eq name x ≡ b → test name ≡ true →
      (b || list_any (bytes_eq name) xs) ≡ true →
      (list_any (bytes_eq name) xs ≡ true → list_any (bytes_eq name) (filter test xs) ≡ true) →
      list_any (bytes_eq name) (cond t (x ∷ filter test xs) (filter test xs)) ≡ true
  among_step true true x xs e same passes h r = rw same
  among_step true false x xs e same passes h r =
      let is : name ≡ x = (bytes_eq-Decides name x).0 same in
      let wrong : true ≡ false = sym passes ∙ ap test is ∙ e in absurd cc
  among_step false true x xs e same passes h r = rw same (r h)
  among_step false false x xs e same passes h r = r h

  -- a name that passes is among those that pass
  pub among_kept : (xs : List (List ℕ)) → test name ≡ true → list_any (bytes_eq name) xs ≡ true →
      list_any (bytes_eq name) (filter test xs) ≡ true
  among_kept [] passes h = h
  among_kept (x ∷ xs) passes h =
      among_step (bytes_eq name x) (test x) x xs refl refl passes h (among_kept xs passes)

  apart_step : (t b : Bool) (x : List ℕ) (xs : List (List ℕ)) → test x ≡ t → bytes_eq name x ≡ b → test name ≡ false →
      list_any (bytes_eq name) (filter test xs) ≡ false →
      list_any (bytes_eq name) (cond t (x ∷ filter test xs) (filter test xs)) ≡ false
  apart_step false b x xs e same fails r = r
  apart_step true false x xs e same fails r = rw same r
  apart_step true true x xs e same fails r =
      let is : name ≡ x = (bytes_eq-Decides name x).0 same in
      let wrong : false ≡ true = sym fails ∙ ap test is ∙ e in absurd cc

  -- a name that does not pass is not among them
  pub apart_kept : (xs : List (List ℕ)) → test name ≡ false → list_any (bytes_eq name) (filter test xs) ≡ false
  apart_kept [] fails = refl
  apart_kept (x ∷ xs) fails = apart_step (test x) (bytes_eq name x) x xs refl refl fails (apart_kept xs fails)

-- ---- one attribute

-- a value that may be sealed: it is lawful, and its lengths fit
abbrev pub IsFit : Attribute → Type 0
IsFit a = IsLawfulAttribute a × (length (canon_of (view a.1)) < 2 ^ 64)

module _ (c : Setting) (root : List ℕ) (names : List (List ℕ)) where
  abbrev sealed_by : Bool → Attribute → Attribute
  sealed_by b a =
      cond b (a.0, B (sealed_field root (number_of a.0 names) (path_of c.table a.0) (view a.1))) a

  opens_by : (a : Attribute) (b among : Bool) → among ≡ b → IsFit a → ((sealed_by b a).0 ≡ a.0) ×
      ((a.0 ≡ (sealed_by b a).0) × ValueOpens among c root (number_of a.0 names) a.0 (sealed_by b a).1 a.1)
  opens_by a true true e fit = (
    refl,
    (
      refl,
      (
        sealed_field root (number_of a.0 names) (path_of c.table a.0) (view a.1),
        refl,
        record { lawful = fit.0.value; short = has_short_parts (view a.1) fit.1; text = refl },
      ),
    ),
  )
  opens_by a false false e fit = (refl, (refl, refl))
  opens_by a true false e fit = absurd cc
  opens_by a false true e fit = absurd cc

  -- sealing keeps the name
  pub sealed_name : (a : Attribute) → (sealed_attribute c root names a).0 ≡ a.0
  sealed_name a = by (is_encrypted_name c a.0)
    where
      by : (b : Bool) → (sealed_by b a).0 ≡ a.0
      by true = refl
      by false = refl

  pub attributes_open : (item : List Attribute) → AllByRecursion IsFit item →
      AllByRecursion (λ (a : Attribute). list_any (bytes_eq a.0) names ≡ is_encrypted_name c a.0) item →
      AllZip (AttributeOpens c root names) (map (sealed_attribute c root names) item) item
  attributes_open [] fit among = tt
  attributes_open (a ∷ item) fit among = (
    (opens_by a (is_encrypted_name c a.0) (list_any (bytes_eq a.0) names) among.0 fit.0).1,
    attributes_open item fit.1 among.1,
  )

  pub sealed_names : (item : List Attribute) → names_of (map (sealed_attribute c root names) item) ≡ names_of item
  sealed_names [] = refl
  sealed_names (a ∷ item) = ap₂ (λ x xs. x ∷ xs) (sealed_name a) (sealed_names item)
