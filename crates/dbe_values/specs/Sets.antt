-- The elements of a set, in order of their bytes.
use Rattle.std.specs.Prelude.{◌≡◌, ℕ, ◌<◌, ◌≤◌, List, [], ◌∷◌, length, Option, Some, None, option_map, get_or}
use Rattle.std.specs.Ordering.{nat_cmp, match_ordering}
use Rattle.std.specs.declared.cmp.Ordering.TheVariants.{Less, Greater}
use Rattle.std.specs.Cmp.Lexicographic.{slice_cmp}
use Rattle.std.specs.List.{All}
use Rattle.dbe_num.specs.Decimal.{Decimal, IsNormal}
use Rattle.dbe_num.specs.NormalText.{normal_text}

-- an element among others, or none where it is there already
abbrev pub placed : List ℕ → List (List ℕ) → Option (List (List ℕ))
placed x [] = Some (x ∷ [])
placed x (y ∷ ys) = match_ordering (slice_cmp nat_cmp x y) (Some (x ∷ y ∷ ys)) None (option_map (λ zs. y ∷ zs)
    (placed x ys))

-- each element is below those after it
abbrev pub IsIncreasing : List (List ℕ) → Type 0
IsIncreasing xs = (i j : ℕ) → i < j → j < length xs → slice_cmp nat_cmp (get_or xs i []) (get_or xs j []) ≡ Less

-- x stands between the elements before a place and those from it on
pub record IsGap (xs : List (List ℕ)) (x : List ℕ) (i : ℕ) : Type 0 where
  pub within : i ≤ length xs
  pub below : (k : ℕ) → k < i → slice_cmp nat_cmp x (get_or xs k []) ≡ Greater
  pub above : (k : ℕ) → i ≤ k → k < length xs → slice_cmp nat_cmp x (get_or xs k []) ≡ Less

-- a set has elements, and each once
pub record IsSet (xs : List (List ℕ)) : Type 0 where
  pub some : 0 < length xs
  pub increasing : IsIncreasing xs

-- the one text of a number
pub record IsNumberText (text : List ℕ) : Type 0 where
  pub number : Decimal
  pub normal : IsNormal number
  pub written : text ≡ normal_text number

-- a set of elements that each have a property
pub record IsSetOf (P : List ℕ → Type 0) (elements : List (List ℕ)) : Type 0 where
  pub set : IsSet elements
  pub each : All P elements
