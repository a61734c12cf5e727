-- The counter stream (SP 800-38D, 6.2 and 6.5).
use Rattle.std.specs.Prelude.{ℕ, zero, suc, ◌+◌, ◌/◌, ◌%◌, ◌^◌, List, ◌++◌, bit_xor, slice_index, length, take, map}
use Rattle.std.specs.List.{range_with_len}
use Rattle.std.specs.Int.{w32, to_be_bytes}
use Rattle.dbe_aes.specs.Words.{word_at}
use Rattle.dbe_aes.specs.Cipher.{cipher}

-- inc 32: the last 4 bytes of the block are greater by one, modulo 2 ^ 32 (6.2)
unfoldable pub inc32 : List ℕ → List ℕ
inc32 block = take 12 block ++ to_be_bytes w32 ((word_at block 12 + 1) % 2 ^ 32)

-- CB 1, CB 2, …, from number 0 on (6.5)
unfoldable pub counter_block : List ℕ → ℕ → List ℕ
counter_block first zero = first
counter_block first (suc j) = inc32 (counter_block first j)

-- byte k of the enciphered counter blocks
unfoldable pub stream_byte : List ℕ → List ℕ → ℕ → ℕ
stream_byte key first k = slice_index (cipher key (counter_block first (k / 16))) (k % 16)

-- GCTR: each byte with the byte of the stream at its place added to it (6.5)
unfoldable pub gctr : List ℕ → List ℕ → List ℕ → List ℕ
gctr key first bytes =
    map (λ k. bit_xor (slice_index bytes k) (stream_byte key first k)) (range_with_len 0 (length bytes))
