-- What is given for placeholders: pairs in strict order of the placeholders' bytes (this project's own).
use Rattle.std.specs.Prelude.{◌≡◌, ℕ, List, [], ◌∷◌, not, is_some, Option, Some, None, if◌then◌else◌}
use Rattle.std.specs.Str.{bytes_eq}
use Rattle.std.specs.List.{AllByRecursion, filter}
use Rattle.std.specs.Map.{keys_of}
use Rattle.std.specs.Ordering.{nat_cmp}
use Rattle.std.specs.declared.cmp.Ordering.TheVariants.{Less}
use Rattle.std.specs.Cmp.Lexicographic.{slice_cmp}

-- what is given for a placeholder
abbrev pub given : {X : Type 0} → List ℕ → List (List ℕ × X) → Option X
given placeholder [] = None
given placeholder (e ∷ others) = if bytes_eq e.0 placeholder then Some e.1 else given placeholder others

-- behind all others, by its bytes
abbrev pub IsBehind : {X : Type 0} → List ℕ → List (List ℕ × X) → Type 0
IsBehind placeholder entries = AllByRecursion (λ key. slice_cmp nat_cmp key placeholder ≡ Less) (keys_of entries)

-- those of some placeholders for which nothing is given
abbrev pub not_given : {X : Type 0} → List (List ℕ × X) → List (List ℕ) → List (List ℕ)
not_given entries placeholders = filter (λ p. not (is_some (given p entries))) placeholders
