-- Names that are collected, each once.
use Rattle.std.proofs.Common.{◌≡◌, ℕ, ◌+◌, ◌<◌, Bool, true, false, ◌||◌, List, [], ◌∷◌, ◌++◌, length, drop, get_or}
use Rattle.std.proofs.Common.{bytes_eq, refl, sym, ap, ◌∙◌}
use Rattle.std.proofs.lemmas.List.{drop_more}
use Rattle.std.proofs.lemmas.List.Folds.{list_any-append}
use Rattle.std.proofs.lemmas.Slice.Eq.{bytes_eq-Decides}
use Rattle.dbe_config.specs.Rules.{is_among}

joined : (a b c : Bool) → ((a || (b || false)) || c) ≡ (a || (b || c))
joined true b c = refl
joined false true c = refl
joined false false c = refl

-- the names from a place on begin with the one there
from_here : (n : List ℕ) (names : List (List ℕ)) (i : ℕ) (x : List ℕ) → i < length names → x ≡ get_or names i x →
    is_among n (drop i names) ≡ (bytes_eq n x || is_among n (drop (i + 1) names))
from_here n names i x lt is = ap (is_among n) (drop_more names i x lt ∙ ap (λ y. y ∷ drop (i + 1) names) (sym is))

module _ (names found : List (List ℕ)) (i : ℕ) (x : List ℕ) (lt : i < length names) (is : x ≡ get_or names i x)
    (so_far : (n : List ℕ) → (is_among n found || is_among n (drop i names)) ≡ is_among n names) where
  -- a name that was added
  pub with_one : (n : List ℕ) → (is_among n (found ++ x ∷ []) || is_among n (drop (i + 1) names)) ≡ is_among n names
  with_one n =
      ap (λ b. b || is_among n (drop (i + 1) names)) (list_any-append (bytes_eq n) found (x ∷ []))
      ∙ joined (is_among n found) (bytes_eq n x) (is_among n (drop (i + 1) names))
      ∙ ap (λ b. is_among n found || b) (sym (from_here n names i x lt is)) ∙ so_far n

  -- one that was there
  passed_over : is_among x found ≡ true → (n : List ℕ) → (b : Bool) → bytes_eq n x ≡ b →
      (is_among n found || is_among n (drop (i + 1) names)) ≡
      (is_among n found || (b || is_among n (drop (i + 1) names)))
  passed_over there n true same = let here : is_among n found ≡ true =
      ap (λ m. is_among m found) ((bytes_eq-Decides n x).0 same) ∙ there in rw here refl
  passed_over there n false other = refl

  pub without_one : is_among x found ≡ true → (n : List ℕ) → (is_among n found || is_among n (drop (i + 1) names)) ≡
      is_among n names
  without_one there n = passed_over there n (bytes_eq n x) refl ∙
      ap (λ b. is_among n found || b) (sym (from_here n names i x lt is)) ∙ so_far n
