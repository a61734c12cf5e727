-- The key expansion of a key of 32 bytes (FIPS 197, 5.2, with Nk = 8). A word is the number of its
-- four bytes, the first of them the highest.
use Rattle.std.specs.Prelude.{ℕ, zero, suc, ◌+◌, ◌-◌, ◌/◌, ◌%◌, ◌==◌, List, [], ◌∷◌, ◌++◌, bit_xor, slice_index}
use Rattle.std.specs.Prelude.{if◌then◌else◌}
use Rattle.std.specs.Int.{w32, from_be_bytes, to_be_bytes}
use Rattle.dbe_aes.specs.Bytes.{sbox}

-- the word of the four bytes from byte i on
abbrev pub word_at : List ℕ → ℕ → ℕ
word_at bytes i = from_be_bytes w32
    (slice_index bytes i ∷ slice_index bytes (i + 1) ∷ slice_index bytes (i + 2) ∷ slice_index bytes (i + 3) ∷ [])

-- byte i of a word
abbrev pub byte_of : ℕ → ℕ → ℕ
byte_of word i = slice_index (to_be_bytes w32 word) i

-- the four bytes of a word
unfoldable pub word_bytes : ℕ → List ℕ
word_bytes word = to_be_bytes w32 word

-- RotWord (5.2)
unfoldable pub rot_word : ℕ → ℕ
rot_word a = from_be_bytes w32 (byte_of a 1 ∷ byte_of a 2 ∷ byte_of a 3 ∷ byte_of a 0 ∷ [])

-- SubWord (5.2)
unfoldable pub sub_word : ℕ → ℕ
sub_word a = from_be_bytes w32
    (sbox (byte_of a 0) ∷ sbox (byte_of a 1) ∷ sbox (byte_of a 2) ∷ sbox (byte_of a 3) ∷ [])

-- Rcon[j], for j from 1 to 10 (5.2, table 5)
abbrev pub round_constant : ℕ → ℕ
round_constant j = slice_index (
    0x01000000 ∷ 0x02000000 ∷ 0x04000000 ∷ 0x08000000 ∷ 0x10000000
    ∷ 0x20000000 ∷ 0x40000000 ∷ 0x80000000 ∷ 0x1b000000 ∷ 0x36000000 ∷ []) (j - 1)

-- what is added to w[i - 8] for w[i], from the words w before it (5.2)
abbrev pub addend : List ℕ → ℕ → ℕ
addend w i =
    if i % 8 == 0 then bit_xor (sub_word (rot_word (slice_index w (i - 1)))) (round_constant (i / 8))
    else (if i % 8 == 4 then sub_word (slice_index w (i - 1)) else slice_index w (i - 1))

-- w[0], …, w[7 + n] of a key
unfoldable pub words_of : List ℕ → ℕ → List ℕ
words_of key zero =
    word_at key 0 ∷ word_at key 4 ∷ word_at key 8 ∷ word_at key 12
    ∷ word_at key 16 ∷ word_at key 20 ∷ word_at key 24 ∷ word_at key 28 ∷ []
words_of key (suc n) =
    words_of key n ++ bit_xor (slice_index (words_of key n) n) (addend (words_of key n) (n + 8)) ∷ []

-- the key schedule, w[0], …, w[59] (5.2)
unfoldable pub key_schedule : List ℕ → List ℕ
key_schedule key = words_of key 52
