-- The counter stream, byte by byte.
use Rattle.std.proofs.Common.{inl, inr, ◌≡◌, ℕ, ◌+◌, ◌-◌, ◌*◌, ◌/◌, ◌%◌, ◌^◌, ◌<◌, ◌≤◌, List, [], ◌∷◌, bit_xor, refl}
use Rattle.std.proofs.Common.{get_or, arith, add-one, length, ap, ◌∙◌}
use Rattle.std.proofs.lemmas.List.{length-map, ext_get_or}
use Rattle.std.proofs.lemmas.List.FromFn.{fill_by_all, get_or-map-range_with_len, length-range_with_len}
use Rattle.std.proofs.lemmas.Bool.{cases_lt}
use Rattle.std.specs.Int.Bits.{xor_assoc, xor_self, xor_zero_r}
use Rattle.dbe_aes.specs.Cipher.{cipher}
use Rattle.std.specs.Int.{w32, from_be_bytes, to_be_bytes}
use Rattle.std.proofs.lemmas.Nat.{from_be_bytes-to_be_bytes_4}
use Rattle.dbe_aes.specs.Words.{word_bytes}
use Rattle.dbe_aes.specs.Columns.{columns}
use Rattle.dbe_aes.specs.Counters.{inc32, counter_block, stream_byte, gctr}

-- the next counter block, of four columns
pub inc32-columns : (a b c n : ℕ) → n < 2 ^ 32 →
    inc32 (columns (a ∷ b ∷ c ∷ n ∷ [])) ≡ columns (a ∷ b ∷ c ∷ ((n + 1) % 2 ^ 32) ∷ [])
unfolding inc32 columns word_bytes
inc32-columns a b c n lt =
    let count : from_be_bytes w32 (to_be_bytes w32 n) ≡ n = from_be_bytes-to_be_bytes_4 n lt in
    rw count refl

pub counter_block-more : (first : List ℕ) (j : ℕ) → inc32 (counter_block first j) ≡ counter_block first (j + 1)
unfolding counter_block
counter_block-more first j = rw add-one refl

-- byte i of enciphered block j stands at 16 j + i of the stream
pub stream_at : (key first counter : List ℕ) (j i k : ℕ) → counter ≡ counter_block first j → i < 16 → k ≡ 16 * j + i →
    get_or (cipher key counter) i 0 ≡ stream_byte key first k
unfolding stream_byte
stream_at key first counter j i k is lt at =
    let e : k / 16 ≡ j = omega arith in
    let f : k % 16 ≡ i = omega arith in
    rw (e, f, is) refl

pub mode_all : (key first old new : List ℕ) → length new ≡ length old → ((k : ℕ) → k < length old →
    get_or new k 0 ≡ bit_xor (get_or old k 0) (stream_byte key first k)) → new ≡ gctr key first old
unfolding gctr
mode_all key first old new long h = fill_by_all (λ k. bit_xor (get_or old k 0) (stream_byte key first k)) new
    (length old) 0 long h

pub length-mode : (key first bytes : List ℕ) → length (gctr key first bytes) ≡ length bytes
unfolding gctr
length-mode key first bytes = length-map _ _ ∙ length-range_with_len 0 (length bytes)

pub mode_at : (key first bytes : List ℕ) (k : ℕ) → k < length bytes →
    get_or (gctr key first bytes) k 0 ≡ bit_xor (get_or bytes k 0) (stream_byte key first k)
unfolding gctr
mode_at key first bytes k lt = get_or-map-range_with_len (λ k. bit_xor (get_or bytes k 0) (stream_byte key first k)) 0
    (length bytes) k k 0 lt (omega arith)

xor_twice : (a b : ℕ) → bit_xor (bit_xor a b) b ≡ a
xor_twice a b = xor_assoc a b b ∙ ap (bit_xor a) (xor_self b) ∙ xor_zero_r a

pub mode_twice : (key first bytes : List ℕ) → gctr key first (gctr key first bytes) ≡ bytes
mode_twice key first bytes =
    let once = gctr key first bytes in
    let long : length (gctr key first once) ≡ length bytes = length-mode key first once ∙ length-mode key first bytes in
    let same = length-mode key first bytes in
    ext_get_or 0 _ _ long (λ k lt. mode_at key first once k (omega arith) ∙
    (rw (mode_at key first bytes k (omega arith)) (xor_twice _ _)))

-- the bytes below n have the stream added, and the others are as they were
pub record AddedTo (key first old new : List ℕ) (n : ℕ) : Type 0 where
  pub done : (k : ℕ) → k < n → get_or new k 0 ≡ bit_xor (get_or old k 0) (stream_byte key first k)
  pub left : (k : ℕ) → n ≤ k → get_or new k 0 ≡ get_or old k 0

pub added_none : (key first old : List ℕ) → AddedTo key first old old 0
added_none key first old = record { done = λ k lt. absurd (omega arith); left = λ k le. refl }

-- a block more
pub added_more : (key first old mid new counter : List ℕ) (j n : ℕ) → counter ≡ counter_block first j → n ≤ 16
    → AddedTo key first old mid (16 * j)
    → ((k : ℕ) → k < 16 * j → get_or new k 0 ≡ get_or mid k 0)
    → ((i : ℕ) → i < n → get_or new (16 * j + i) 0 ≡ bit_xor (get_or mid (16 * j + i) 0) (get_or (cipher key counter)
    i 0))
    → (k : ℕ) → k < 16 * j + n → get_or new k 0 ≡ bit_xor (get_or old k 0) (stream_byte key first k)
added_more key first old mid new counter j n is small before same added k lt = elim (cases_lt k (16 * j)) [
  | inl a ↦ same k a ∙ before.done k a
  | inr b ↦
      let at : 16 * j + (k - 16 * j) ≡ k = omega arith in
      let within : k - 16 * j < n = omega arith in
      let mine = added (k - 16 * j) within in
      rw at at mine ∙ rw (
        before.left k b,
        stream_at key first counter j (k - 16 * j) k is (omega arith)
            (omega arith),
      ) refl
]
