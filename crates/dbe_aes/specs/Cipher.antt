-- Cipher, with 14 rounds (FIPS 197, 5.1).
use Rattle.std.specs.Prelude.{ℕ, zero, suc, List}
use Rattle.dbe_aes.specs.States.{sub_bytes, shift_rows, mix_columns, add_round_key}
use Rattle.dbe_aes.specs.Words.{key_schedule}

-- the state after n rounds from the block s, with the words w of the key schedule
unfoldable pub rounds : List ℕ → List ℕ → ℕ → List ℕ
rounds w s zero = add_round_key w 0 s
rounds w s (suc n) = add_round_key w (suc n) (mix_columns (shift_rows (sub_bytes (rounds w s n))))

-- a block enciphered with the words w; the last round has no MixColumns
unfoldable pub cipher_by_words : List ℕ → List ℕ → List ℕ
cipher_by_words w s = add_round_key w 14 (shift_rows (sub_bytes (rounds w s 13)))

-- a block of 16 bytes, enciphered under a key of 32 bytes
unfoldable pub cipher : List ℕ → List ℕ → List ℕ
cipher key s = cipher_by_words (key_schedule key) s
