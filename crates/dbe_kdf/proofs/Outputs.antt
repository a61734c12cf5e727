-- The lengths of what HMAC and HKDF give, and that it is bytes.
use Rattle.std.proofs.Common.{◌≡◌, ℕ, zero, suc, ◌+◌, ◌*◌, ◌/◌, ◌<◌, List, [], ◌∷◌, ◌++◌, length, slice_index, All}
use Rattle.std.proofs.Common.{refl, arith, length-append}
use Rattle.std.specs.Int.{w64, to_be_bytes, byte_at}
use Rattle.std.proofs.lemmas.List.{length-take-le}
use Rattle.std.proofs.lemmas.List.Elements.{All-nil, All-cons, All-append, All-take}
use Rattle.sha2.specs.Sha512.{sha384, sha512, digest_bytes, final_hash, initial_hash_384}
use Rattle.dbe_kdf.specs.Hmac.{hmac}
use Rattle.dbe_kdf.specs.Hkdf.{hkdf, hkdf_expand, hkdf_extract, hkdf_block, hkdf_blocks}

abbrev IsByte : ℕ → Type 0
IsByte b = b < 256

byte_at-small : (k x : ℕ) → IsByte (byte_at k x)
byte_at-small zero x = omega arith
byte_at-small (suc k) x = omega arith

word_bytes : (x : ℕ) → All IsByte (to_be_bytes w64 x)
word_bytes x =
    let one = All-cons IsByte (byte_at 0 x) [] (byte_at-small 0 x) (All-nil IsByte) in
    let two = All-cons IsByte (byte_at 1 x) (byte_at 0 x ∷ []) (byte_at-small 1 x) one in
    let three = All-cons IsByte (byte_at 2 x) (byte_at 1 x ∷ byte_at 0 x ∷ []) (byte_at-small 2 x) two in
    let four = All-cons IsByte (byte_at 3 x) (byte_at 2 x ∷ byte_at 1 x ∷ byte_at 0 x ∷ []) (byte_at-small 3 x) three in
    let five = All-cons IsByte (byte_at 4 x) (byte_at 3 x ∷ byte_at 2 x ∷ byte_at 1 x ∷ byte_at 0 x ∷ [])
    (byte_at-small 4 x) four in
    let six = All-cons IsByte (byte_at 5 x) (byte_at 4 x ∷ byte_at 3 x ∷ byte_at 2 x ∷ byte_at 1 x ∷ byte_at 0 x ∷ [])
    (byte_at-small 5 x) five in
    let seven = All-cons IsByte (byte_at 6 x) (byte_at 5 x ∷ byte_at 4 x ∷ byte_at 3 x ∷ byte_at 2 x ∷ byte_at 1 x ∷
    byte_at 0 x ∷ []) (byte_at-small 6 x) six in
    All-cons IsByte (byte_at 7 x) (byte_at 6 x ∷ byte_at 5 x ∷ byte_at 4 x ∷ byte_at 3 x ∷ byte_at 2 x ∷ byte_at 1 x ∷
    byte_at 0 x ∷ []) (byte_at-small 7 x) seven

-- the bytes of the first n words of a hash value
digest_facts : (h : List ℕ) (n : ℕ) → (length (digest_bytes h n) ≡ n * 8) × All IsByte (digest_bytes h n)
unfolding digest_bytes
digest_facts h zero = (refl, All-nil IsByte)
digest_facts h (suc n) =
    let before = digest_facts h n in
    let word : length (to_be_bytes w64 (slice_index h n)) ≡ 8 = refl in (
      omega (arith, length-append (digest_bytes h n) (to_be_bytes w64 (slice_index h n)), before.0),
      All-append IsByte _ _ before.1 (word_bytes _),
    )

pub length-sha512 : (m : List ℕ) → length (sha512 m) ≡ 64
unfolding sha512
length-sha512 m = (digest_facts _ 8).0

pub bytes-sha512 : (m : List ℕ) → All (λ b. b < 256) (sha512 m)
unfolding sha512
bytes-sha512 m = (digest_facts _ 8).1

pub length-sha384 : (m : List ℕ) → length (sha384 m) ≡ 48
unfolding sha384
length-sha384 m =
    let hash = final_hash initial_hash_384 m in
    let whole = (digest_facts hash 8).0 in
    length-take-le 48 (digest_bytes hash 8) (omega (arith, whole))

pub bytes-sha384 : (m : List ℕ) → All (λ b. b < 256) (sha384 m)
unfolding sha384
bytes-sha384 m = All-take IsByte 48 _ (digest_facts _ 8).1

pub length-hmac384 : (key text : List ℕ) → length (hmac sha384 key text) ≡ 48
unfolding hmac
length-hmac384 key text = length-sha384 _

pub bytes-hmac384 : (key text : List ℕ) → All (λ b. b < 256) (hmac sha384 key text)
unfolding hmac
bytes-hmac384 key text = bytes-sha384 _

pub length-hmac512 : (key text : List ℕ) → length (hmac sha512 key text) ≡ 64
unfolding hmac
length-hmac512 key text = length-sha512 _

pub bytes-hmac512 : (key text : List ℕ) → All (λ b. b < 256) (hmac sha512 key text)
unfolding hmac
bytes-hmac512 key text = bytes-sha512 _

pub length-hkdf_blocks : (prk info : List ℕ) (n : ℕ) → length (hkdf_blocks prk info n) ≡ 64 * n
unfolding hkdf_blocks hkdf_block
length-hkdf_blocks prk info zero = refl
length-hkdf_blocks prk info (suc n) =
    let before = length-hkdf_blocks prk info n in
    let block = length-hmac512 prk (hkdf_block prk info n ++ info ++ suc n ∷ []) in
    omega (
      arith,
      length-append (hkdf_blocks prk info n) (hmac sha512 prk (hkdf_block prk info n ++ info ++ suc n ∷ [])),
      before,
      block,
    )

bytes-hkdf_blocks : (prk info : List ℕ) (n : ℕ) → All IsByte (hkdf_blocks prk info n)
unfolding hkdf_blocks hkdf_block
bytes-hkdf_blocks prk info zero = All-nil IsByte
bytes-hkdf_blocks prk info (suc n) = All-append IsByte _ _ (bytes-hkdf_blocks prk info n) (bytes-hmac512 _ _)

pub length-hkdf : (ikm salt info : List ℕ) (n : ℕ) → length (hkdf ikm salt info n) ≡ n
unfolding hkdf hkdf_expand
length-hkdf ikm salt info n =
    let prk = hkdf_extract salt ikm in
    let whole = length-hkdf_blocks prk info ((n + 63) / 64) in
    length-take-le n (hkdf_blocks prk info ((n + 63) / 64)) (omega (arith, whole))

pub bytes-hkdf : (ikm salt info : List ℕ) (n : ℕ) → All (λ b. b < 256) (hkdf ikm salt info n)
unfolding hkdf hkdf_expand
bytes-hkdf ikm salt info n = All-take IsByte n _ (bytes-hkdf_blocks _ info _)
