-- HKDF (RFC 5869) with SHA-512, whose digests have 64 bytes (HashLen).
use Rattle.std.specs.Prelude.{ℕ, zero, suc, ◌+◌, ◌/◌, List, [], ◌∷◌, ◌++◌, length, replicate, take, ◌==◌, if◌then◌else◌}
use Rattle.sha2.specs.Sha512.{sha512}
use Rattle.dbe_kdf.specs.Hmac.{hmac}

-- the salt; one that is not given is a string of HashLen zeros (2.2)
abbrev pub salt_or_zeros : List ℕ → List ℕ
salt_or_zeros salt = if length salt == 0 then replicate 64 0 else salt

-- the pseudorandom key PRK (2.2)
unfoldable pub hkdf_extract : List ℕ → List ℕ → List ℕ
hkdf_extract salt ikm = hmac sha512 (salt_or_zeros salt) ikm

-- T(n): T(0) is empty, and T(n) is the HMAC of T(n-1) | info | n, where n is one byte, from 1 to 255 (2.3)
unfoldable pub hkdf_block : List ℕ → List ℕ → ℕ → List ℕ
hkdf_block prk info zero = []
hkdf_block prk info (suc n) = hmac sha512 prk (hkdf_block prk info n ++ info ++ suc n ∷ [])

-- T(1) | T(2) | ... | T(n) (2.3)
unfoldable pub hkdf_blocks : List ℕ → List ℕ → ℕ → List ℕ
hkdf_blocks prk info zero = []
hkdf_blocks prk info (suc n) = hkdf_blocks prk info n ++ hkdf_block prk info (suc n)

-- the output keying material OKM: the first n bytes of T(1) | ... | T(N), where N is n / HashLen rounded up,
-- for n up to 255 * HashLen (2.3)
unfoldable pub hkdf_expand : List ℕ → List ℕ → ℕ → List ℕ
hkdf_expand prk info n = take n (hkdf_blocks prk info ((n + 63) / 64))

-- extract, and then expand to n bytes (2.1)
unfoldable pub hkdf : List ℕ → List ℕ → List ℕ → ℕ → List ℕ
hkdf ikm salt info n = hkdf_expand (hkdf_extract salt ikm) info n
