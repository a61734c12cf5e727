-- The names that a legend marks: how many there are.
use Rattle.std.proofs.Common.{◌≡◌, ℕ, suc, ◌≤◌, ◌==◌, Bool, true, false, cond, List, [], ◌∷◌, length, refl, ap, arith}
use Rattle.std.specs.List.{filter}
use Rattle.dbe_frame.specs.Sizes.{encrypted}
use Rattle.dbe_item.specs.Names.{marked}

abbrev marks : ℕ → Bool
marks b = b == encrypted

count_step : (t : Bool) (name : List ℕ) (names : List (List ℕ)) (b : ℕ) (bytes : List ℕ) → length names ≡ length bytes →
    length (cond t (name ∷ names) names) ≡ length (cond t (b ∷ bytes) bytes)
count_step true name names b bytes same = ap suc same
count_step false name names b bytes same = same

pub marked_count : (names : List (List ℕ)) (legend : List ℕ) → length legend ≡ length names →
    length (marked names legend) ≡ length (filter (λ b. b == encrypted) legend)
marked_count [] [] e = refl
marked_count [] (b ∷ legend) e = absurd (omega arith)
marked_count (name ∷ names) [] e = absurd (omega arith)
marked_count (name ∷ names) (b ∷ legend) e = count_step (marks b) name (marked names legend) b (filter marks legend)
    (marked_count names legend (omega arith))

few_step : (t : Bool) (name : List ℕ) (names : List (List ℕ)) (n : ℕ) → length names ≤ n →
    length (cond t (name ∷ names) names) ≤ suc n
few_step true name names n few = omega (arith, few)
few_step false name names n few = omega (arith, few)

pub marked_few : (names : List (List ℕ)) (legend : List ℕ) → length (marked names legend) ≤ length legend
marked_few [] [] = omega arith
marked_few [] (b ∷ legend) = omega arith
marked_few (name ∷ names) [] = omega arith
marked_few (name ∷ names) (b ∷ legend) =
    few_step (marks b) name (marked names legend) (length legend) (marked_few names legend)
