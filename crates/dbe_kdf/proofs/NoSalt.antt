-- An empty key and 64 zeros are the same key of an HMAC.
use Rattle.std.proofs.Common.{◌≡◌, ℕ, List, [], ◌∷◌, replicate, refl, sym, ap, arith}
use Rattle.std.proofs.lemmas.Bool.Decides.{nat_tests}
use Rattle.sha2.specs.Sha512.{sha512}
use Rattle.dbe_kdf.specs.Hmac.{hmac}
use Rattle.dbe_kdf.specs.Hkdf.{hkdf, hkdf_extract, salt_or_zeros}

hmac-no_key : (text : List ℕ) → hmac sha512 [] text ≡ hmac sha512 (replicate 64 0) text
unfolding hmac
hmac-no_key text = refl

salt_or_zeros-given : (s : ℕ) (salt : List ℕ) → salt_or_zeros (s ∷ salt) ≡ s ∷ salt
salt_or_zeros-given s salt = grind (arith, nat_tests)

pub hkdf_extract_is : (salt ikm : List ℕ) → hmac sha512 salt ikm ≡ hkdf_extract salt ikm
unfolding hkdf_extract
hkdf_extract_is [] ikm = hmac-no_key ikm
hkdf_extract_is (s ∷ salt) ikm = ap (λ k. hmac sha512 k ikm) (sym (salt_or_zeros-given s salt))

pub hkdf-empty_salt : (ikm info : List ℕ) (n : ℕ) → hkdf ikm [] info n ≡ hkdf ikm (replicate 64 0) info n
unfolding hkdf hkdf_extract
hkdf-empty_salt ikm info n = refl
