-- Parts of lists.
use Rattle.std.proofs.Common.{◌≡◌, ℕ, ◌+◌, ◌-◌, ◌≤◌, List, take, drop, ap, ◌∙◌, arith}
use Rattle.std.proofs.lemmas.List.{drop-take}

pub drop_of_take : (from to : ℕ) (cs : List ℕ) → from ≤ to → drop from (take to cs) ≡ take (to - from) (drop from cs)
drop_of_take from to cs le =
    let back : to ≡ from + (to - from) = omega arith in
    ap (λ k. drop from (take k cs)) back ∙ drop-take from (to - from) cs
