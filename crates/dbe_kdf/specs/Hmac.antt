-- HMAC (RFC 2104, section 2), over a digest with blocks of 128 bytes, as SHA-384 and SHA-512 have.
use Rattle.std.specs.Prelude.{ℕ, ◌-◌, List, ◌++◌, length, map, bit_xor, replicate, nat_lt, if◌then◌else◌}

-- the key with zeros at its end, up to a block (step 1)
abbrev pub zero_padded : List ℕ → List ℕ
zero_padded key = key ++ replicate (128 - length key) 0

-- the key as a block, where a key that is longer than a block counts by its digest
abbrev pub key_block : (List ℕ → List ℕ) → List ℕ → List ℕ
key_block digest key = if nat_lt 128 (length key) then zero_padded (digest key) else zero_padded key

-- a block with each byte xored with a pad's byte (steps 2 and 5)
abbrev pub xor_pad : ℕ → List ℕ → List ℕ
xor_pad pad block = map (λ b. bit_xor b pad) block

-- H(K XOR opad, H(K XOR ipad, text)), where ipad repeats the byte 0x36 and opad the byte 0x5c
unfoldable pub hmac : (List ℕ → List ℕ) → List ℕ → List ℕ → List ℕ
hmac digest key text =
    digest (xor_pad 0x5c (key_block digest key) ++ digest (xor_pad 0x36 (key_block digest key) ++ text))
