-- The state, four rows and four columns of bytes (FIPS 197, 3.4), and the steps of a round (5.1). A
-- state is the list of its bytes, column after column, so a block and its state are the same list.
use Rattle.std.specs.Prelude.{ℕ, ◌+◌, ◌*◌, ◌%◌, List, [], ◌∷◌, bit_xor, slice_index}
use Rattle.std.specs.Int.{w32, to_be_bytes}
use Rattle.dbe_aes.specs.Bytes.{product, sbox}

-- s[r, c]: the byte in row r and column c (3.4)
abbrev pub cell : List ℕ → ℕ → ℕ → ℕ
cell s r c = slice_index s (r + 4 * c)

-- the state whose byte in row r and column c is f r c
abbrev pub state_of : (ℕ → ℕ → ℕ) → List ℕ
state_of f =
    f 0 0 ∷ f 1 0 ∷ f 2 0 ∷ f 3 0 ∷ f 0 1 ∷ f 1 1 ∷ f 2 1 ∷ f 3 1
    ∷ f 0 2 ∷ f 1 2 ∷ f 2 2 ∷ f 3 2 ∷ f 0 3 ∷ f 1 3 ∷ f 2 3 ∷ f 3 3 ∷ []

-- SubBytes (5.1.1)
unfoldable pub sub_bytes : List ℕ → List ℕ
sub_bytes s = state_of (λ r c. sbox (cell s r c))

-- ShiftRows: row r moves r places to the left (5.1.2)
unfoldable pub shift_rows : List ℕ → List ℕ
shift_rows s = state_of (λ r c. cell s r ((c + r) % 4))

-- the column of a, b, c, d as MixColumns makes it (5.1.3)
abbrev pub mixed : ℕ → ℕ → ℕ → ℕ → List ℕ
mixed a b c d =
    bit_xor (bit_xor (bit_xor (product 2 a) (product 3 b)) c) d
    ∷ bit_xor (bit_xor (bit_xor a (product 2 b)) (product 3 c)) d
    ∷ bit_xor (bit_xor (bit_xor a b) (product 2 c)) (product 3 d)
    ∷ bit_xor (bit_xor (bit_xor (product 3 a) b) c) (product 2 d) ∷ []

-- MixColumns (5.1.3)
unfoldable pub mix_columns : List ℕ → List ℕ
mix_columns s = state_of (λ r c. slice_index (mixed (cell s 0 c) (cell s 1 c) (cell s 2 c) (cell s 3 c)) r)

-- AddRoundKey of round n, with the words w of the key schedule (5.1.4)
unfoldable pub add_round_key : List ℕ → ℕ → List ℕ → List ℕ
add_round_key w n s =
    state_of (λ r c. bit_xor (cell s r c) (slice_index (to_be_bytes w32 (slice_index w (4 * n + c))) r))
