-- A state as its four columns, each the word of its four bytes: how the tables see it.
use Rattle.std.specs.Prelude.{ℕ, List, [], ◌∷◌, ◌++◌, bit_xor, slice_index}
use Rattle.dbe_aes.specs.Bytes.{sbox}
use Rattle.dbe_aes.specs.Words.{byte_of, word_bytes}
use Rattle.dbe_aes.specs.States.{mixed}

-- the state of four words
unfoldable pub columns : List ℕ → List ℕ
columns s = word_bytes (slice_index s 0) ++ word_bytes (slice_index s 1) ++ word_bytes (slice_index s 2) ++ word_bytes
    (slice_index s 3)

-- four bytes and four others, added
abbrev pub added_bytes : List ℕ → List ℕ → List ℕ
added_bytes xs ys =
    bit_xor (slice_index xs 0) (slice_index ys 0) ∷ bit_xor (slice_index xs 1) (slice_index ys 1)
    ∷ bit_xor (slice_index xs 2) (slice_index ys 2) ∷ bit_xor (slice_index xs 3) (slice_index ys 3) ∷ []

-- a column after SubBytes, ShiftRows, MixColumns and AddRoundKey with the word k, where a, b, c and d
-- are the columns that its rows come from
unfoldable pub round_column : ℕ → ℕ → ℕ → ℕ → ℕ → List ℕ
round_column a b c d k =
    added_bytes (mixed (sbox (byte_of a 0)) (sbox (byte_of b 1)) (sbox (byte_of c 2)) (sbox (byte_of d 3)))
    (word_bytes k)

-- the same in the last round, without MixColumns
unfoldable pub last_column : ℕ → ℕ → ℕ → ℕ → ℕ → List ℕ
last_column a b c d k =
    added_bytes (sbox (byte_of a 0) ∷ sbox (byte_of b 1) ∷ sbox (byte_of c 2) ∷ sbox (byte_of d 3) ∷ []) (word_bytes k)
