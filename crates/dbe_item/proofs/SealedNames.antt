-- Sealed attributes keep their names.
use Rattle.std.proofs.Common.{◌≡◌, ℕ, Bool, true, false, cond, List, [], ◌∷◌, map, refl, ap, ◌∙◌}
use Rattle.dbe_values.specs.Lawful.{names_of}
use Rattle.dbe_values.specs.declared.value.AttrValue.{AttrValue}
use Rattle.dbe_config.specs.Setting.{Setting}
use Rattle.dbe_item.specs.Names.{is_encrypted_name}
use Rattle.dbe_item.specs.Sealed.{sealed_attribute}

chosen : (b : Bool) (name : List ℕ) (sealed value : AttrValue) →
    (cond {A = List ℕ × AttrValue} b (name, sealed) (name, value)).0 ≡ name
chosen true name sealed value = refl
chosen false name sealed value = refl

pub same_name : (c : Setting) (root : List ℕ) (names : List (List ℕ)) (a : List ℕ × AttrValue) →
    (sealed_attribute c root names a).0 ≡ a.0
same_name c root names a = chosen (is_encrypted_name c a.0) a.0 _ a.1

pub same_names : (c : Setting) (root : List ℕ) (names : List (List ℕ)) (item : List (List ℕ × AttrValue)) →
    names_of (map (sealed_attribute c root names) item) ≡ names_of item
same_names c root names [] = refl
same_names c root names (a ∷ item) = ap (λ (n : List ℕ). n ∷ names_of (map (sealed_attribute c root names) item))
    (same_name c root names a) ∙ ap (λ (ns : List (List ℕ)). a.0 ∷ ns) (same_names c root names item)
