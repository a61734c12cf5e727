-- How HKDF's blocks fill a slice, one after another.
use Rattle.std.proofs.Common.{◌≡◌, ℕ, suc, ◌+◌, ◌-◌, ◌*◌, ◌/◌, ◌<◌, List, [], ◌∷◌, ◌++◌, length, take, drop, min}
use Rattle.std.proofs.Common.{refl, ap, ◌∙◌, sym, arith, add-one, length-append, length-drop}
use Rattle.std.proofs.lemmas.List.{take_all, take_min, length-take-le}
use Rattle.std.proofs.lemmas.Slice.{take-put_mid}
use Rattle.sha2.specs.Sha512.{sha512}
use Rattle.dbe_kdf.specs.Hmac.{hmac}
use Rattle.dbe_kdf.specs.Hkdf.{hkdf_expand, hkdf_block, hkdf_blocks}
use Rattle.dbe_kdf.proofs.Outputs.{length-hkdf_blocks}
use borrow.Rule.Slice.PartMut.{put_mid, post_of}

-- no block yet
pub hkdf_block_none : (prk info : List ℕ) → hkdf_block prk info 0 ≡ []
unfolding hkdf_block
hkdf_block_none prk info = refl

pub hkdf_blocks_none : (prk info : List ℕ) → hkdf_blocks prk info 0 ≡ []
unfolding hkdf_blocks
hkdf_blocks_none prk info = refl

-- a block from the one before it
pub hkdf_block_next : (prk info : List ℕ) (i : ℕ) →
    hkdf_block prk info (i + 1) ≡ hmac sha512 prk (hkdf_block prk info i ++ info ++ (i + 1) ∷ [])
unfolding hkdf_block
hkdf_block_next prk info i = rw add-one refl

hkdf_blocks_next : (prk info : List ℕ) (i : ℕ) → hkdf_blocks prk info (i + 1) ≡ hkdf_blocks prk info i ++ hkdf_block
    prk info (i + 1)
unfolding hkdf_blocks
hkdf_blocks_next prk info i = rw add-one refl

-- two counts that are the same within a list take the same
take_same : (n m : ℕ) (xs : List ℕ) → min n (length xs) ≡ min m (length xs) → take n xs ≡ take m xs
take_same n m xs same = sym (take_min n xs) ∙ ap (λ k. take k xs) same ∙ take_min m xs

take-append_past : (xs ys : List ℕ) (n : ℕ) → take (length xs + n) (xs ++ ys) ≡ xs ++ take n ys
take-append_past [] ys n =
    let count : 0 + n ≡ n = omega arith in
    ap (λ k. take k ys) count
take-append_past (x ∷ xs) ys n =
    let count : suc (length xs) + n ≡ suc (length xs + n) = omega arith in
    ap (λ k. take k (x ∷ xs ++ ys)) count ∙ ap (λ zs. x ∷ zs) (take-append_past xs ys n)

-- one more block, of which the slice has room for k bytes
pub filled_more : (prk info out block ys : List ℕ) (i k : ℕ) →
    take (64 * i) out ≡ take (length out) (hkdf_blocks prk info i) → 64 * i < length out
    → block ≡ hkdf_block prk info (i + 1) → length block ≡ 64 → 64 * i + k ≡ min (length out) (64 * i + 64) →
    ys ≡ take k block
    → take (64 * (i + 1)) (put_mid (64 * i) k out ys) ≡ take (length (put_mid (64 * i) k out ys))
    (hkdf_blocks prk info (i + 1))
filled_more prk info out block ys i k held room is size fits part =
    let before : List ℕ = hkdf_blocks prk info i in
    let now : List ℕ = put_mid (64 * i) k out ys in
    let before_size : length before ≡ 64 * i = length-hkdf_blocks prk info i in
    let front : take (64 * i) out ≡ before = held ∙ take_all (length out) before (omega arith) in
    let part_size : length ys ≡ k = ap length part ∙ length-take-le k block (omega arith) in
    let front_size : length (take (64 * i) out) ≡ 64 * i = length-take-le (64 * i) out (omega arith) in
    let now_size : length now ≡ length out =
    omega (
      arith,
      length-append (take (64 * i) out) (ys ++ post_of (64 * i) k out),
      length-append ys (post_of (64 * i) k out),
      length-drop k (drop (64 * i) out),
      length-drop (64 * i) out,
    ) in
    let written : take (64 * i + k) now ≡ before ++ ys = take-put_mid (64 * i) k out ys (64 * i + k) (omega arith)
    (omega arith) ∙ ap (λ xs. xs ++ ys) front in
    let all_written : take (64 * (i + 1)) now ≡ before ++ ys = take_same (64 * (i + 1)) (64 * i + k) now (omega arith)
    ∙ written in
    let left : ℕ = length out - 64 * i in
    let cut : take left block ≡ ys = take_same left k block (omega arith) ∙ sym part in
    let count : length now ≡ length before + left = omega arith in
    let wanted : take (length now) (before ++ block) ≡ before ++ ys =
    ap (λ n. take n (before ++ block)) count ∙ take-append_past before block left ∙ ap (λ xs. before ++ xs) cut in
    rw (hkdf_blocks_next prk info i, ← is) (all_written ∙ sym wanted)

-- all blocks
pub filled_all : (prk info out : List ℕ) (n i : ℕ) → take (64 * i) out ≡ take (length out) (hkdf_blocks prk info i) →
    length out ≡ n → i ≡ (n + 63) / 64
    → out ≡ hkdf_expand prk info n
unfolding hkdf_expand
filled_all prk info out n i held size all =
    let whole : take (64 * i) out ≡ out = take_all (64 * i) out (omega arith) in
    rw (← all, ← size) (sym whole ∙ held)
