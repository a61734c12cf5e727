-- Lengths and byte ranges of what GCM gives.
use Rattle.std.proofs.Common.{inl, inr, ◌≡◌, ℕ, zero, suc, ◌+◌, ◌*◌, ◌/◌, ◌%◌, ◌<◌, List, [], ◌∷◌, ◌++◌, bit_xor}
use Rattle.std.proofs.Common.{get_or, length, take, drop, refl, ap, arith, All}
use Rattle.std.specs.Int.{w32, to_be_bytes, bytes_high_first, byte_at}
use Rattle.std.proofs.lemmas.Nat.{xor_of_8}
use Rattle.std.proofs.lemmas.List.{get_or_past}
use Rattle.std.proofs.lemmas.List.Elements.{All-nil, All-cons, All-get_or, All-from_get_or}
use Rattle.std.proofs.lemmas.Bool.{cases_lt}
use Rattle.dbe_aes.specs.Bytes.{sbox, affine}
use Rattle.dbe_aes.specs.States.{state_of, sub_bytes, shift_rows, add_round_key}
use Rattle.dbe_aes.specs.Words.{key_schedule}
use Rattle.dbe_aes.specs.Cipher.{cipher, cipher_by_words, rounds}
use Rattle.dbe_aes.specs.Counters.{gctr, counter_block, stream_byte, inc32}
use Rattle.dbe_aes.proofs.Counters.{length-mode, mode_at}
use Rattle.dbe_gcm.specs.Gcm.{j0, streamed, tag_of}

abbrev IsByte : ℕ → Type 0
IsByte b = b < 256

byte_at-small : (k x : ℕ) → IsByte (byte_at k x)
byte_at-small zero x = omega arith
byte_at-small (suc k) x = omega arith

high_first : (k x : ℕ) → All IsByte (bytes_high_first k x)
high_first zero x = All-nil IsByte
high_first (suc k) x = All-cons IsByte (byte_at k x) (bytes_high_first k x) (byte_at-small k x) (high_first k x)

-- past its end a list of bytes has zeros
at_small : (xs : List ℕ) (k : ℕ) → All IsByte xs → IsByte (get_or xs k 0)
at_small xs k all = elim (cases_lt k (length xs)) [
  | inl lt ↦ All-get_or IsByte xs k 0 lt all
  | inr past ↦ rw (get_or_past xs k 0 past) (omega arith)
]

bits_small : (a b c d e f g h : ℕ) →
    a % 2 + 2 * (b % 2) + 4 * (c % 2) + 8 * (d % 2) + 16 * (e % 2) + 32 * (f % 2) + 64 * (g % 2) + 128 * (h % 2) < 256
bits_small a b c d e f g h = omega arith

sbox-small : (x : ℕ) → IsByte (sbox x)
unfolding sbox affine
sbox-small x = bits_small _ _ _ _ _ _ _ _

-- a column before others
abbrev column : (ℕ → ℕ → ℕ) → ℕ → List ℕ → List ℕ
column f c rest = f 0 c ∷ f 1 c ∷ f 2 c ∷ f 3 c ∷ rest

column_small : (f : ℕ → ℕ → ℕ) (c : ℕ) (rest : List ℕ) → ((r c : ℕ) → IsByte (f r c)) → All IsByte rest →
    All IsByte (column f c rest)
column_small f c rest each small =
    let three = All-cons IsByte (f 3 c) rest (each 3 c) small in
    let two = All-cons IsByte (f 2 c) (f 3 c ∷ rest) (each 2 c) three in
    let one = All-cons IsByte (f 1 c) (f 2 c ∷ f 3 c ∷ rest) (each 1 c) two in
    All-cons IsByte (f 0 c) (f 1 c ∷ f 2 c ∷ f 3 c ∷ rest) (each 0 c) one

state_small : (f : ℕ → ℕ → ℕ) → ((r c : ℕ) → IsByte (f r c)) → All IsByte (state_of f)
state_small f each =
    let three = column_small f 3 [] each (All-nil IsByte) in
    let two = column_small f 2 (column f 3 []) each three in
    let one = column_small f 1 (column f 2 (column f 3 [])) each two in
    column_small f 0 (column f 1 (column f 2 (column f 3 []))) each one

shift_rows-small : (s : List ℕ) → All IsByte s → All IsByte (shift_rows s)
unfolding shift_rows
shift_rows-small s small =
    state_small (λ r c. get_or s (r + 4 * ((c + r) % 4)) 0) (λ r c. at_small s (r + 4 * ((c + r) % 4)) small)

sub_bytes-small : (s : List ℕ) → All IsByte (sub_bytes s)
unfolding sub_bytes
sub_bytes-small s =
    state_small (λ r c. sbox (get_or s (r + 4 * c) 0)) (λ r c. sbox-small (get_or s (r + 4 * c) 0))

-- byte r of a word
abbrev byte : ℕ → ℕ → ℕ
byte word r = get_or (to_be_bytes w32 word) r 0

byte-small : (word r : ℕ) → IsByte (byte word r)
byte-small word r = at_small (to_be_bytes w32 word) r (high_first 4 word)

add_round_key-small : (w : List ℕ) (n : ℕ) (s : List ℕ) → All IsByte s → All IsByte (add_round_key w n s)
unfolding add_round_key
add_round_key-small w n s small =
    state_small (λ r c. bit_xor (get_or s (r + 4 * c) 0) (byte (get_or w (4 * n + c) 0) r)) (λ r c.
    xor_of_8 (get_or s (r + 4 * c) 0) (byte (get_or w (4 * n + c) 0) r)
    (at_small s (r + 4 * c) small) (byte-small (get_or w (4 * n + c) 0) r))

cipher-small : (key block : List ℕ) → All IsByte (cipher key block)
unfolding cipher cipher_by_words
cipher-small key block =
    let s = rounds (key_schedule key) block 13 in
    let last = shift_rows-small (sub_bytes s) (sub_bytes-small s) in
    add_round_key-small (key_schedule key) 14 (shift_rows (sub_bytes s)) last

stream_byte-small : (key first : List ℕ) (k : ℕ) → IsByte (stream_byte key first k)
unfolding stream_byte
stream_byte-small key first k =
    let counter = counter_block first (k / 16) in
    at_small (cipher key counter) (k % 16) (cipher-small key counter)

gctr-small : (key first bytes : List ℕ) → All IsByte bytes → All IsByte (gctr key first bytes)
gctr-small key first bytes small =
    let size = length-mode key first bytes in
    All-from_get_or IsByte (gctr key first bytes) 0 (λ k lt.
    rw (mode_at key first bytes k (omega arith))
    (xor_of_8 (get_or bytes k 0) (stream_byte key first k) (at_small bytes k small) (stream_byte-small key first k)))

pub length-streamed : (key iv text : List ℕ) → length (streamed key iv text) ≡ length text
unfolding streamed
length-streamed key iv text = length-mode key (inc32 (j0 iv)) text

pub streamed-small : (key iv text : List ℕ) → All (λ b. b < 256) text → All (λ b. b < 256) (streamed key iv text)
unfolding streamed
streamed-small key iv text = gctr-small key (inc32 (j0 iv)) text

pub length-tag_of : (key iv aad text : List ℕ) → length (tag_of key iv aad text) ≡ 16
unfolding tag_of
length-tag_of key iv aad text = refl

pub tag_of-small : (key iv aad text : List ℕ) → All (λ b. b < 256) (tag_of key iv aad text)
unfolding tag_of
tag_of-small key iv aad text = high_first 16 _

-- joined lists, cut where the first ends
pub take-joined : (n : ℕ) (xs ys : List ℕ) → length xs ≡ n → take n (xs ++ ys) ≡ xs
take-joined n [] ys size = rw (← size) refl
take-joined n (x ∷ xs) ys size = rw (← size) (ap (λ zs. x ∷ zs) (take-joined (length xs) xs ys refl))

pub drop-joined : (n : ℕ) (xs ys : List ℕ) → length xs ≡ n → drop n (xs ++ ys) ≡ ys
drop-joined n [] ys size = rw (← size) refl
drop-joined n (x ∷ xs) ys size = rw (← size) (drop-joined (length xs) xs ys refl)
