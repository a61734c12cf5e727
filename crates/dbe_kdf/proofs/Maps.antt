-- A list whose numbers are those of another under a function.
use Rattle.std.proofs.Common.{◌≡◌, ℕ, suc, ◌<◌, List, [], ◌∷◌, length, get_or, map, refl, arith}

pub is_map : (f : ℕ → ℕ) (xs ys : List ℕ) → length ys ≡ length xs → ((k : ℕ) → k < length xs →
    get_or ys k 0 ≡ f (get_or xs k 0)) → ys ≡ map f xs
is_map f [] [] e each = refl
is_map f [] (y ∷ ys) e each = absurd (omega arith)
is_map f (x ∷ xs) [] e each = absurd (omega arith)
is_map f (x ∷ xs) (y ∷ ys) e each =
    let head : y ≡ f x = each 0 (omega arith) in
    let rest : ys ≡ map f xs = is_map f xs ys (omega arith) (λ k lt. each (suc k) (omega arith)) in
    cc
