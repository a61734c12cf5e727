-- GCM with an IV of 12 bytes and a tag of 16 (SP 800-38D, 7.1 and 7.2). Slices of every length have a
-- meaning here. Past the standard's limits the counter goes on modulo 2 ^ 32, and a length in bits is
-- taken modulo 2 ^ 64: both are this project's own.
use Rattle.std.specs.Prelude.{ℕ, List, [], ◌∷◌, ◌++◌, bit_xor, replicate}
use Rattle.std.specs.Int.{w128, from_be_bytes, to_be_bytes}
use Rattle.dbe_aes.specs.Cipher.{cipher}
use Rattle.dbe_aes.specs.Counters.{inc32, gctr}
use Rattle.dbe_gcm.specs.Hash.{ghash, blocks_of, lengths_block}

-- J 0: the IV, and 1 as a counter of 32 bits (7.1, step 2)
abbrev pub j0 : List ℕ → List ℕ
j0 iv = iv ++ 0 ∷ 0 ∷ 0 ∷ 1 ∷ []

-- H, the enciphered block of zeros (7.1, step 1)
unfoldable pub hash_key : List ℕ → ℕ
hash_key key = from_be_bytes w128 (cipher key (replicate 16 0))

-- S, the hash of the associated data and the ciphertext (7.1, step 5)
unfoldable pub hash_of : ℕ → List ℕ → List ℕ → ℕ
hash_of h aad text = ghash h (blocks_of aad ++ blocks_of text ++ lengths_block aad text ∷ [])

-- the tag of a ciphertext (7.1, step 6)
unfoldable pub tag_of : List ℕ → List ℕ → List ℕ → List ℕ → List ℕ
tag_of key iv aad text =
    to_be_bytes w128 (bit_xor (hash_of (hash_key key) aad text) (from_be_bytes w128 (cipher key (j0 iv))))

-- text to ciphertext and back: the counter stream from the block after J 0 on (7.1, step 3; 7.2, step 4)
unfoldable pub streamed : List ℕ → List ℕ → List ℕ → List ℕ
streamed key iv text = gctr key (inc32 (j0 iv)) text

-- a ciphertext and its tag
pub record Sealed : Type 0 where
  pub ciphertext : List ℕ
  pub tag : List ℕ

-- authenticated encryption (7.1)
unfoldable pub gcm : List ℕ → List ℕ → List ℕ → List ℕ → Sealed
gcm key iv aad text = record { ciphertext = streamed key iv text; tag = tag_of key iv aad (streamed key iv text) }
