-- Names that are lawful.
use Rattle.std.proofs.Common.{◌≡◌, ℕ, Bool, true, false, ◌||◌, List, [], ◌∷◌, Some, Option, if◌then◌else◌, map}
use Rattle.std.proofs.Common.{bytes_eq, refl, sym, ap, ◌∙◌, subst, arith, ◌⊎◌, inl, inr}
use Rattle.std.specs.List.{All}
use Rattle.std.proofs.lemmas.List.Elements.{All-head, All-tail}
use Rattle.std.proofs.lemmas.Slice.Eq.{bytes_eq-Decides}
use Rattle.std.proofs.lemmas.Bool.Decides.{nat_tests}
use Rattle.dbe_values.specs.Attributes.{is_name, value_at}
use Rattle.dbe_values.specs.Lawful.{IsLawfulAttribute}
use Rattle.dbe_values.specs.declared.value.AttrValue.{AttrValue}
use Rattle.dbe_config.specs.Bounds.{HasBytes, IsBounded}
use Rattle.dbe_config.specs.Rules.{is_among, compound_names, virtual_names}
use Rattle.dbe_config.specs.Setting.{Setting}
use Rattle.dbe_config.specs.declared.compound.Compound.{Compound}
use Rattle.dbe_config.specs.declared.virtual_field.Virtual.{Virtual}
use Rattle.dbe_fields.specs.Plain.{is_computed}

module _ {X : Type 0} (f : X → List ℕ) (P : List ℕ → Type 0) (n : List ℕ) where
  here_by : (x : X) (xs : List X) → All (λ x. P (f x)) (x ∷ xs) → (is_among n (map f xs) ≡ true → P n) → (b : Bool) →
      bytes_eq n (f x) ≡ b → is_among n (map f (x ∷ xs)) ≡ true → P n
  here_by x xs h later true same among = subst P (sym ((bytes_eq-Decides n (f x)).0 same)) (All-head (λ x. P (f x)) x
      xs h)
  here_by x xs h later false apart among = later (rw apart at among)

  -- what holds of each of some names holds of one of them
  pub among_all : (xs : List X) → All (λ x. P (f x)) xs → is_among n (map f xs) ≡ true → P n
  among_all [] h among = absurd (cc)
  among_all (x ∷ xs) h among = here_by x xs h (among_all xs (All-tail (λ x. P (f x)) x xs h)) (bytes_eq n (f x)) refl
      among

-- a name of 1 to 245 bytes is an attribute's
bounded_name : (n : List ℕ) → HasBytes 1 245 n → is_name n ≡ true
bounded_name n bounds = grind (arith, nat_tests, bounds.0, bounds.1)

or_cases : (a b : Bool) → (a || b) ≡ true → (a ≡ true) ⊎ (b ≡ true)
or_cases true b e = inl refl
or_cases false b e = inr e

-- the names of compounds and virtual fields may be those of attributes
pub computed_name : (s : Setting) (n : List ℕ) → IsBounded s → is_computed s n ≡ true → is_name n ≡ true
computed_name s n bounds among =
    elim (or_cases (is_among n (compound_names s.compounds)) (is_among n (virtual_names s.virtuals)) among) [
      | inl e ↦ bounded_name n (among_all (λ (c : Compound). c.name) (HasBytes 1 245) n s.compounds
          (λ k d lt. (bounds.compounds k d lt).0) e)
      | inr e ↦ bounded_name n (among_all (λ (v : Virtual). v.name) (HasBytes 1 245) n s.virtuals bounds.virtuals e)
    ]

module _ (n : List ℕ) (v : AttrValue) where
  found_by : (a : List ℕ × AttrValue) (others : List (List ℕ × AttrValue)) → All IsLawfulAttribute (a ∷ others) →
      (value_at n others ≡ Some v → IsLawfulAttribute (n, v)) → (b : Bool) → bytes_eq a.0 n ≡ b
      → (if b then Some a.1 else value_at n others) ≡ Some v → IsLawfulAttribute (n, v)
  found_by a others h later true same some =
      let is : a.1 ≡ v = cc in
      subst (λ m. IsLawfulAttribute (m, v)) ((bytes_eq-Decides a.0 n).0 same) (subst (λ w. IsLawfulAttribute (a.0, w))
      is (All-head IsLawfulAttribute a others h))
  found_by a others h later false apart some = later some

  -- an attribute that is found is one of the item's
  pub lawful_found : (row : List (List ℕ × AttrValue)) → All IsLawfulAttribute row → value_at n row ≡ Some v →
      IsLawfulAttribute (n, v)
  lawful_found [] h some = absurd (cc)
  lawful_found (a ∷ others) h some = found_by a others h (lawful_found others (All-tail IsLawfulAttribute a others h))
      (bytes_eq a.0 n) refl some
