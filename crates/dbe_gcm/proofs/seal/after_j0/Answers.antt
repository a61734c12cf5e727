use Rattle.std.proofs.Common.{ℕ, get_or, refl, sym, ap, ◌∙◌, List}
use Rattle.std.proofs.lemmas.List.FromFn.{fill_by_all}
use Rattle.dbe_aes.specs.Counters.{inc32}
use Rattle.dbe_gcm.specs.Gcm.{j0}
use Rattle.dbe_gcm.proofs.SecondBlock.{second_block}
use Rattle.dbe_gcm.proofs.seal.after_j0.Goals as goal

pub returns : goal.returns
returns c =
    let all = fill_by_all (λ k. get_or c.args.iv.now k 0) c.args.iv.now 12 0 c.told-iv (λ k lt. refl) in
    second_block _ _ _ _ _ _ _ _ _ _ _ _ ∙ ap (λ (xs : List ℕ). inc32 (j0 xs)) (sym all)
