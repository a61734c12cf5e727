-- GHASH (SP 800-38D, 6.4).
use Rattle.std.specs.Prelude.{ℕ, suc, ◌+◌, ◌-◌, ◌*◌, ◌/◌, ◌%◌, ◌^◌, List, [], ◌∷◌, ◌++◌, bit_xor, length, take, drop}
use Rattle.std.specs.Prelude.{map, replicate}
use Rattle.std.specs.List.{range_with_len}
use Rattle.std.specs.Int.{w128, from_be_bytes}
use Rattle.dbe_gcm.specs.Blocks.{product, power}

-- the sum of the products of X i and H to the power n + 1 - i, over the n blocks X 1, …, X n
unfoldable pub ghash : ℕ → List ℕ → ℕ
ghash h [] = 0
ghash h (x ∷ xs) = bit_xor (product x (power h (suc (length xs)))) (ghash h xs)

-- the block of the 16 bytes from byte i on
unfoldable pub block_at : List ℕ → ℕ → ℕ
block_at bytes i = from_be_bytes w128 (take 16 (drop i bytes))

-- the bytes, filled with zeros to whole blocks
unfoldable pub filled : List ℕ → List ℕ
filled bytes = bytes ++ replicate ((16 - length bytes % 16) % 16) 0

-- the blocks of the bytes, filled with zeros to whole blocks
unfoldable pub blocks_of : List ℕ → List ℕ
blocks_of bytes = map (λ j. block_at (filled bytes) (16 * j)) (range_with_len 0 (length (filled bytes) / 16))

-- the block of the two lengths in bits, each as 64 bits. Lengths of 2 ^ 64 bits and more, which the
-- standard leaves out, are taken modulo 2 ^ 64.
unfoldable pub lengths_block : List ℕ → List ℕ → ℕ
lengths_block aad text = (8 * length aad % 2 ^ 64) * 2 ^ 64 + 8 * length text % 2 ^ 64
