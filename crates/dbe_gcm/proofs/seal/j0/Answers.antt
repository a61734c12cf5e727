use Rattle.std.proofs.Common.{ℕ, get_or, refl, sym, ap, ◌++◌, [], ◌∷◌, List}
use Rattle.std.proofs.lemmas.List.FromFn.{fill_by_all}
use Rattle.dbe_gcm.proofs.seal.j0.Goals as goal

pub returns : goal.returns
returns c =
    let all = fill_by_all (λ k. get_or c.args.iv.now k 0) c.args.iv.now 12 0 c.told-iv (λ k lt. refl) in
    ap (λ (xs : List ℕ). xs ++ 0 ∷ 0 ∷ 0 ∷ 1 ∷ []) (sym all)
