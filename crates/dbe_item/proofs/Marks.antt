-- The names that a legend marks as encrypted.
use Rattle.std.proofs.Common.{◌≡◌, ℕ, zero, suc, ◌+◌, ◌<◌, Bool, true, false, cond, eqb, List, [], ◌∷◌, ◌++◌, length}
use Rattle.std.proofs.Common.{take}
use Rattle.std.proofs.Common.{get_or, refl, sym, ap, ◌∙◌, append-nil, append_assoc, arith}
use Rattle.dbe_frame.specs.Sizes.{encrypted}
use Rattle.dbe_item.specs.Names.{marked}

abbrev pub one_marked : List ℕ → ℕ → List (List ℕ)
one_marked name b = cond (eqb b encrypted) (name ∷ []) []

one_first : (test : Bool) (name : List ℕ) (xs : List (List ℕ)) →
    cond test (name ∷ xs) xs ≡ cond test (name ∷ []) [] ++ xs
one_first true name xs = refl
one_first false name xs = refl

marked_one_more : (i : ℕ) (names : List (List ℕ)) (legend : List ℕ) (d : List ℕ) → i < length names →
    i < length legend → marked (take (suc i) names) (take (suc i) legend) ≡ marked (take i names) (take i legend) ++
    one_marked (get_or names i d) (get_or legend i 0)
marked_one_more i [] legend d lt le = absurd (omega arith)
marked_one_more i (n ∷ names) [] d lt le = absurd (omega arith)
marked_one_more zero (n ∷ names) (b ∷ legend) d lt le = refl
marked_one_more (suc i) (n ∷ names) (b ∷ legend) d lt le =
    let rest = marked_one_more i names legend d (omega arith) (omega arith) in
    one_first (eqb b encrypted) n (marked (take (suc i) names) (take (suc i) legend))
    ∙ ap (λ xs. one_marked n b ++ xs) rest
    ∙ sym (append_assoc (one_marked n b) (marked (take i names) (take i legend))
    (one_marked (get_or names i d) (get_or legend i 0)))
    ∙ ap (λ xs. xs ++ one_marked (get_or names i d) (get_or legend i 0)) (sym (one_first (eqb b encrypted) n
    (marked (take i names) (take i legend))))

module _ (i : ℕ) (names : List (List ℕ)) (legend : List ℕ) (lt : i < length names)
    (same : length legend ≡ length names) (so_far : List (List ℕ)) (is : so_far ≡ marked (take i names) (take i legend))
  where
    one_more : (d : List ℕ) → marked (take (i + 1) names) (take (i + 1) legend) ≡ so_far ++
        one_marked (get_or names i d) (get_or legend i 0)
    one_more d =
        let next : i + 1 ≡ suc i = omega arith in
        ap (λ n. marked (take n names) (take n legend)) next ∙ marked_one_more i names legend d lt (omega arith) ∙
        ap (λ xs. xs ++ one_marked (get_or names i d) (get_or legend i 0)) (sym is)

    pub marked_kept : (eqb (get_or legend i 0) encrypted ≡ false) → so_far ≡ marked (take (i + 1) names)
        (take (i + 1) legend)
    marked_kept e = sym (one_more [] ∙ ap (λ b. so_far ++ cond b (get_or names i [] ∷ []) []) e ∙ append-nil so_far)

    pub marked_more : (name copied : List ℕ) (more : List (List ℕ)) → eqb (get_or legend i 0) encrypted ≡ true →
        name ≡ get_or names i name → copied ≡ name → more ≡ so_far ++ copied ∷ [] →
        more ≡ marked (take (i + 1) names) (take (i + 1) legend)
    marked_more name copied more e at same_copy pushed =
        pushed ∙ ap (λ n. so_far ++ n ∷ []) (same_copy ∙ at) ∙
        ap (λ b. so_far ++ cond b (get_or names i name ∷ []) []) (sym e) ∙ sym (one_more name)
