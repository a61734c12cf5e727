-- The key stream of ChaCha20 as bytes: each word as 4 bytes, low byte first (RFC 8439, 2.3), with Bernstein's layout of
-- the last four words of a block: a 64-bit block counter, and a 64-bit nonce that is 0 here.
use Rattle.std.specs.Prelude.{ℕ, ◌≡◌, ◌+◌, ◌/◌, ◌%◌, ◌^◌, List, slice_index, EachIndex}
use Rattle.std.specs.Int.{w32, to_le_bytes}
use Rattle.std.specs.declared.option.Option.{Option}
use Rattle.rand_chacha.specs.ChaCha.{word_at}

-- a stream of bytes
pub record KeyStream : Type 0 where
  pub key : List ℕ  -- the eight words of the key
  pub at : ℕ  -- the place of the next byte, below 2 ^ 70

-- the byte at a place of the stream
abbrev pub key_stream_byte : List ℕ → ℕ → ℕ
key_stream_byte key at = slice_index (to_le_bytes w32 (word_at 10 key 0 (at / 4))) (at % 4)

-- the stream after n bytes more, which repeats after 2 ^ 70 bytes
abbrev pub stream_after : KeyStream → ℕ → KeyStream
stream_after s n = record s { at = (s.at + n) % 2 ^ 70 }

-- bytes are the next of the stream, in their order
abbrev pub AreNext : KeyStream → List ℕ → Type 0
AreNext s bytes = EachIndex bytes (λ k. slice_index bytes k ≡ key_stream_byte s.key ((s.at + k) % 2 ^ 70))

-- random bytes from a seed that was had or not
pub record SeededDice : Type 0 where
  pub stream : Option KeyStream  -- the stream of the seed, none where there was no seed
  pub faults : ℕ  -- how many fills have failed
