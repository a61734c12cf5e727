-- What `read` answers.
use Rattle.std.proofs.Common.{◌≡◌, ℕ, ◌^◌, ◌<◌, arith, Bool, true, false, ◌&&◌, cond, eqb, List, [], ◌∷◌, length, map}
use Rattle.std.proofs.Common.{Option, Some, None, Result, Ok, Err, refl, ap, ◌∙◌}
use Rattle.std.specs.Prelude.{IfOk, IsErrOf}
use Rattle.dbe_values.specs.Val.{Val}
use Rattle.dbe_values.specs.View.{view, entry_view, entries_of}
use Rattle.dbe_values.specs.declared.value.AttrValue.{AttrValue, M}
use Rattle.dbe_values.specs.Val as v
use Rattle.dbe_values.proofs.Views.{view-M}
use Rattle.dbe_canon.specs.declared.fault.CanonFault.{CanonFault}
use Rattle.dbe_canon.specs.declared.fault.CanonFault.TheVariants.{NotCanonical, Memory}
use Rattle.dbe_values.specs.Lawful.{IsLawful}
use Rattle.dbe_canon.specs.Canon.{Canon, IsCanon, type_id, canon_of}
use Rattle.dbe_canon.proofs.ShortParts.{has_short_parts}
use Rattle.dbe_canon.specs.Reading.{Gives, value_in, count_at, many_at, entry_at, map_of, is_increasing}
use Rattle.dbe_canon.proofs.Fields.{IsBytes}
use Rattle.dbe_canon.proofs.ReadAgain.{read_sound, not_read}

pub read_found : (r : Result AttrValue CanonFault) (id bytes : List ℕ) → IsBytes bytes →
    Gives view r (value_in 32 id bytes) → IfOk r (λ x. Canon (view x) id bytes)
read_found (Ok x) id bytes fits h = read_sound 32 id bytes (view x) fits h
read_found (Err e) id bytes fits h = tt

pub read_none : (r : Result AttrValue CanonFault) (id bytes : List ℕ) → Gives view r (value_in 32 id bytes) →
    IsErrOf r NotCanonical → (x : Val) → Canon x id bytes → ⊥
read_none (Ok x) id bytes h is = absurd cc
read_none (Err NotCanonical) id bytes h is = not_read 32 id bytes h
read_none (Err Memory) id bytes h is = absurd cc

-- ---- a map

names_viewed : (es : List (List ℕ × AttrValue)) → map (λ (e : List ℕ × Val). e.0) (map entry_view es) ≡ map
    (λ (e : List ℕ × AttrValue). e.0) es
names_viewed [] = refl
names_viewed (e ∷ es) = ap (λ (ys : List (List ℕ)). e.0 ∷ ys) (names_viewed es)

shut : (b : Bool) (x : Option Val) → cond (b && false) x None ≡ None
shut true x = refl
shut false x = refl

empty_is : (xs : List ℕ) → xs ≡ [] → eqb (length xs) 0 ≡ true
empty_is xs e = ap (λ (ys : List ℕ). eqb (length ys) 0) e

module _ (value : List ℕ → List ℕ → Option Val) (bytes : List ℕ) (n : ℕ) (rest : List ℕ) (es : List (List ℕ ×
    AttrValue)) (left : List ℕ) (counted : count_at bytes ≡ Some (n, rest)) (many : many_at (entry_at value) n rest ≡
    Some (map entry_view es, left)) where
  pub map_unordered : is_increasing (map (λ (e : List ℕ × AttrValue). e.0) es) ≡ false → map_of value bytes ≡ None
  unfolding map_of
  map_unordered h =
      let names : is_increasing (map (λ (e : List ℕ × Val). e.0) (map entry_view es)) ≡ false =
      ap is_increasing (names_viewed es) ∙ h in
      rw (counted, many, names) (shut (eqb (length left) 0) (Some (v.map (entries_of (map entry_view es)))))

  pub map_made : left ≡ [] → is_increasing (map (λ (e : List ℕ × AttrValue). e.0) es) ≡ true →
      map_of value bytes ≡ Some (view (M es))
  unfolding map_of
  map_made ended h =
      let names : is_increasing (map (λ (e : List ℕ × Val). e.0) (map entry_view es)) ≡ true =
      ap is_increasing (names_viewed es) ∙ h in
      rw (counted, many, names, empty_is left ended, view-M es) refl

-- ---- what was written

pub written_canon : (left : ℕ) (x : Val) (bytes : List ℕ) → bytes ≡ canon_of x → length bytes < 2 ^ 64 →
    IsLawful left x → IsCanon left x (type_id x) bytes
written_canon left x bytes e short h = record {
  lawful = h;
  short = has_short_parts x (omega (arith, ap length e));
  same_id = refl;
  same_bytes = e;
}
