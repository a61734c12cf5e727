-- Lists that are joined of parts.
use Rattle.std.proofs.Common.{◌≡◌, ℕ, ◌+◌, ◌-◌, ◌≤◌, List, [], ◌++◌, length, take, drop, refl, ap, sym, ◌∙◌, arith}
use Rattle.std.proofs.lemmas.List.{append-nil, drop_all, take_at, drop_at}
use borrow.Rule.Slice.PartMut.{put_mid}

-- behind the first n elements the last k are written
pub put_mid_joined : (n k : ℕ) (xs ys zs : List ℕ) → length xs ≡ n → length zs ≡ k → put_mid n k (xs ++ zs) ys ≡ xs ++ ys
put_mid_joined n k xs ys zs size rest =
    let within : length zs ≤ k = omega arith in
    rw (take_at xs zs n size, drop_at xs zs n size, drop_all k zs within, append-nil ys) refl
