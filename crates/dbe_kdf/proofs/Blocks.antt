-- The blocks of HKDF's output: fewer of them are the first bytes of more.
use Rattle.std.proofs.Common.{◌≡◌, ℕ, zero, suc, ◌+◌, ◌-◌, ◌*◌, ◌/◌, ◌≤◌, List, length, take, refl, arith, add-zero}
use Rattle.std.proofs.Common.{add-suc}
use Rattle.std.proofs.lemmas.List.{take-take, take-append-le}
use Rattle.dbe_kdf.specs.Hkdf.{hkdf, hkdf_expand, hkdf_extract, hkdf_block, hkdf_blocks}
use Rattle.dbe_kdf.proofs.Outputs.{length-hkdf_blocks}

take-hkdf_blocks : (prk info : List ℕ) (m k j : ℕ) → m ≤ 64 * k →
    take m (hkdf_blocks prk info (k + j)) ≡ take m (hkdf_blocks prk info k)
unfolding hkdf_blocks
take-hkdf_blocks prk info m k zero within = rw add-zero refl
take-hkdf_blocks prk info m k (suc j) within =
    let size = length-hkdf_blocks prk info (k + j) in
    let fits : m ≤ length (hkdf_blocks prk info (k + j)) = omega (arith, size) in
    rw (add-suc, take-append-le m (hkdf_blocks prk info (k + j)) (hkdf_block prk info (suc (k + j))) fits)
    (take-hkdf_blocks prk info m k j within)

pub take-hkdf_expand : (prk info : List ℕ) (m n : ℕ) → m ≤ n → take m (hkdf_expand prk info n) ≡ hkdf_expand prk info m
unfolding hkdf_expand
take-hkdf_expand prk info m n within =
    let fewer : ℕ = (m + 63) / 64 in
    let more : ℕ = (n + 63) / 64 in
    let sum : fewer + (more - fewer) ≡ more = omega arith in
    let first = take-hkdf_blocks prk info m fewer (more - fewer) (omega arith) in
    rw (take-take m n (hkdf_blocks prk info more) within) (rw sum at first)

pub take-hkdf : (ikm salt info : List ℕ) (m n : ℕ) → m ≤ n → take m (hkdf ikm salt info n) ≡ hkdf ikm salt info m
unfolding hkdf
take-hkdf ikm salt info m n within = take-hkdf_expand (hkdf_extract salt ikm) info m n within
