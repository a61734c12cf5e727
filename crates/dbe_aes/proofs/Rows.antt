-- The four tables, checked entry by entry, and the bytes of sums of words.
use Rattle.std.proofs.Common.{◌≡◌, ℕ, zero, suc, ◌+◌, ◌*◌, ◌/◌, ◌%◌, ◌^◌, ◌<◌, List, [], ◌∷◌, ◌++◌, Bool, true, false}
use Rattle.std.proofs.Common.{◌&&◌, ◌==◌, bit_xor, refl, get_or, take, drop, arith, length, ap, ◌∙◌}
use Rattle.std.specs.Int.{w32, from_be_bytes}
use Rattle.std.proofs.lemmas.Bool.{eqb-true}
use Rattle.std.proofs.lemmas.Nat.{xor_shr, xor_mod, be_bytes_4}
use Rattle.std.proofs.lemmas.List.{get_or-take, get_or-drop}
use Rattle.std.proofs.lemmas.List.FromFn.{fill_by_all}
use Rattle.dbe_aes.specs.Bytes.{product_of_bits, product, sbox}
use Rattle.dbe_aes.specs.Words.{word_bytes, byte_of}
use Rattle.dbe_aes.specs.States.{add_round_key, mix_columns, shift_rows, sub_bytes}
use Rattle.dbe_aes.specs.Columns.{added_bytes, round_column, last_column}
use Rattle.dbe_aes.specs.declared.substitution.TheConstants.{SUBSTITUTION}
use Rattle.dbe_aes.specs.declared.tables.TheConstants.{ROWS}
use Rattle.dbe_aes.proofs.Entries.{both, substitution_entry}

-- whether the bytes of the word y are p, q, r, s
abbrev has_bytes : ℕ → ℕ → ℕ → ℕ → ℕ → Bool
has_bytes y p q r s = (y / 2 ^ 24 % 256 == p) && ((y / 2 ^ 16 % 256 == q) && ((y / 2 ^ 8 % 256 == r) && (y % 256 == s)))

-- whether each word of ys has the bytes p, q, r, s of the byte of xs at its place
abbrev are_rows : (ℕ → ℕ) → (ℕ → ℕ) → (ℕ → ℕ) → (ℕ → ℕ) → List ℕ → List ℕ → Bool
are_rows p q r s xs [] = true
are_rows p q r s [] (y ∷ ys) = false
are_rows p q r s (x ∷ xs) (y ∷ ys) = has_bytes y (p x) (q x) (r x) (s x) && are_rows p q r s xs ys

row_at : (p q r s : ℕ → ℕ) (xs ys : List ℕ) (k : ℕ) → are_rows p q r s xs ys ≡ true → k < length ys →
    word_bytes (get_or ys k 0) ≡ p (get_or xs k 0) ∷ q (get_or xs k 0) ∷ r (get_or xs k 0) ∷ s (get_or xs k 0) ∷ []
unfolding word_bytes
row_at p q r s xs [] k h lt = absurd (omega arith)
row_at p q r s [] (y ∷ ys) k h lt = cc
row_at p q r s (x ∷ xs) (y ∷ ys) zero h lt =
    let e = both _ _ (both _ _ h).0 in
    let f = both _ _ e.1 in
    let g = both _ _ f.1 in
    rw (
      eqb-true (y / 2 ^ 24 % 256) (p x) e.0,
      eqb-true (y / 2 ^ 16 % 256) (q x) f.0,
      eqb-true (y / 2 ^ 8 % 256) (r x) g.0,
      eqb-true (y % 256) (s x) g.1,
    ) refl
row_at p q r s (x ∷ xs) (y ∷ ys) (suc k) h lt = row_at p q r s xs ys k (both _ _ h).1 (omega arith)

-- the 256 entries from number n on
abbrev rows_from : ℕ → List ℕ
rows_from n = take 256 (drop n ROWS)

rows_at : (n x : ℕ) → x < 256 → get_or (rows_from n) x 0 ≡ get_or ROWS (n + x) 0
rows_at n x lt = get_or-take 256 (drop n ROWS) x 0 lt ∙ get_or-drop n ROWS x 0

are_rows_0 : are_rows (product 2) (λ x. x) (λ x. x) (product 3) SUBSTITUTION (rows_from 0) ≡ true
unfolding product_of_bits product
are_rows_0 = refl

are_rows_1 : are_rows (product 3) (product 2) (λ x. x) (λ x. x) SUBSTITUTION (rows_from 256) ≡ true
unfolding product_of_bits product
are_rows_1 = refl

are_rows_2 : are_rows (λ x. x) (product 3) (product 2) (λ x. x) SUBSTITUTION (rows_from 512) ≡ true
unfolding product_of_bits product
are_rows_2 = refl

are_rows_3 : are_rows (λ x. x) (λ x. x) (product 3) (product 2) SUBSTITUTION (rows_from 768) ≡ true
unfolding product_of_bits product
are_rows_3 = refl

pub row_0 : (x : ℕ) → x < 256 → word_bytes (get_or ROWS x 0) ≡ product 2 (sbox x) ∷ sbox x ∷ sbox x ∷ product 3
    (sbox x) ∷ []
row_0 x lt =
    let at : 0 + x ≡ x = omega arith in
    rw (substitution_entry x lt, rows_at 0 x lt, at) at (row_at (product 2) (λ x. x) (λ x. x) (product 3) SUBSTITUTION
    (rows_from 0) x are_rows_0 lt)

pub row_1 : (x : ℕ) → x < 256 → word_bytes (get_or ROWS (256 + x) 0) ≡ product 3 (sbox x) ∷ product 2 (sbox x) ∷ sbox
    x ∷ sbox x ∷ []
row_1 x lt = rw (substitution_entry x lt, rows_at 256 x lt) at (row_at (product 3) (product 2) (λ x. x) (λ x. x)
    SUBSTITUTION (rows_from 256) x are_rows_1 lt)

pub row_2 : (x : ℕ) → x < 256 → word_bytes (get_or ROWS (512 + x) 0) ≡ sbox x ∷ product 3 (sbox x) ∷ product 2
    (sbox x) ∷ sbox x ∷ []
row_2 x lt = rw (substitution_entry x lt, rows_at 512 x lt) at (row_at (λ x. x) (product 3) (product 2) (λ x. x)
    SUBSTITUTION (rows_from 512) x are_rows_2 lt)

pub row_3 : (x : ℕ) → x < 256 → word_bytes (get_or ROWS (768 + x) 0) ≡ sbox x ∷ sbox x ∷ product 3 (sbox x) ∷ product
    2 (sbox x) ∷ []
row_3 x lt = rw (substitution_entry x lt, rows_at 768 x lt) at (row_at (λ x. x) (λ x. x) (product 3) (product 2)
    SUBSTITUTION (rows_from 768) x are_rows_3 lt)

-- byte i of a sum of words
byte-xor : (x y i : ℕ) → bit_xor x y / 2 ^ i % 2 ^ 8 ≡ bit_xor (x / 2 ^ i % 2 ^ 8) (y / 2 ^ i % 2 ^ 8)
byte-xor x y i = rw (xor_shr x y i) (xor_mod (x / 2 ^ i) (y / 2 ^ i) 8)

pub bytes-xor : (x y : ℕ) → word_bytes (bit_xor x y) ≡ added_bytes (word_bytes x) (word_bytes y)
unfolding word_bytes
bytes-xor x y = rw (byte-xor x y 24, byte-xor x y 16, byte-xor x y 8, xor_mod x y 8) refl

byte_lt : (x i : ℕ) → x / 2 ^ i % 256 < 256
byte_lt x i = omega arith

-- a column of a round is a sum of entries
pub round_column_is : (a b c d k p q r s : ℕ) → p ≡ byte_of a 0 → q ≡ byte_of b 1 → r ≡ byte_of c 2 → s ≡ byte_of d 3
    → word_bytes (bit_xor (bit_xor (bit_xor (bit_xor (get_or ROWS p 0) (get_or ROWS (256 + q) 0))
    (get_or ROWS (512 + r) 0)) (get_or ROWS (768 + s) 0)) k) ≡ round_column a b c d k
unfolding round_column
round_column_is a b c d k p q r s ep eq er es =
    let lp : p < 256 = omega arith in
    let lq : q < 256 = omega arith in
    let lr : r < 256 = omega arith in
    let ls : s < 256 = omega arith in
    bytes-xor _ k ∙ ap (λ xs. added_bytes xs (word_bytes k)) (bytes-xor _ (get_or ROWS (768 + s) 0) ∙
    ap (λ xs. added_bytes xs (word_bytes (get_or ROWS (768 + s) 0))) (bytes-xor _ (get_or ROWS (512 + r) 0) ∙
    ap (λ xs. added_bytes xs (word_bytes (get_or ROWS (512 + r) 0))) (bytes-xor (get_or ROWS p 0)
    (get_or ROWS (256 + q) 0))))
    ∙ rw (row_0 p lp, row_1 q lq, row_2 r lr, row_3 s ls, ep, eq, er, es) refl

-- the columns of a round
pub columns-round : (w : List ℕ) (n a b c d : ℕ)
    → round_column a b c d (get_or w (4 * n) 0) ++ round_column b c d a (get_or w (4 * n + 1) 0) ++ round_column c d a
    b (get_or w (4 * n + 2) 0) ++ round_column d a b c (get_or w (4 * n + 3) 0)
    ≡ add_round_key w n
    (mix_columns (shift_rows (sub_bytes (word_bytes a ++ word_bytes b ++ word_bytes c ++ word_bytes d))))
unfolding round_column add_round_key mix_columns shift_rows sub_bytes word_bytes
columns-round w n a b c d =
    let first : 4 * n + 0 ≡ 4 * n = omega arith in
    rw first refl

pub columns-last_round : (w : List ℕ) (a b c d : ℕ)
    → last_column a b c d (get_or w 56 0) ++ last_column b c d a (get_or w 57 0) ++ last_column c d a b
    (get_or w 58 0) ++ last_column d a b c (get_or w 59 0)
    ≡ add_round_key w 14 (shift_rows (sub_bytes (word_bytes a ++ word_bytes b ++ word_bytes c ++ word_bytes d)))
unfolding last_column add_round_key shift_rows sub_bytes word_bytes
columns-last_round w a b c d = refl

four_lt : (p q r s i : ℕ) → p < 256 → q < 256 → r < 256 → s < 256 → get_or (p ∷ q ∷ r ∷ s ∷ []) i 0 < 256
four_lt p q r s zero a b c d = a
four_lt p q r s (suc zero) a b c d = b
four_lt p q r s (suc (suc zero)) a b c d = c
four_lt p q r s (suc (suc (suc zero))) a b c d = d
four_lt p q r s (suc (suc (suc (suc i)))) a b c d = omega arith

-- the word of four bytes, with another added
pub word_sum : (n k p q r s : ℕ) → n ≡ from_be_bytes w32 (p ∷ q ∷ r ∷ s ∷ []) → p < 256 → q < 256 → r < 256 → s < 256
    → word_bytes (bit_xor n k) ≡ added_bytes (p ∷ q ∷ r ∷ s ∷ []) (word_bytes k)
word_sum n k p q r s is a b c d =
    let bytes : word_bytes n ≡ p ∷ q ∷ r ∷ s ∷ [] = unfold word_bytes in
    be_bytes_4 (p ∷ q ∷ r ∷ s ∷ []) n refl (λ i. four_lt p q r s i a b c d) is in
    bytes-xor n k ∙ ap (λ xs. added_bytes xs (word_bytes k)) bytes

pub last_column_is : (a b c d k n p q r s : ℕ) → n ≡ from_be_bytes w32 (p ∷ q ∷ r ∷ s ∷ []) → p < 256 → q < 256 →
    r < 256 → s < 256
    → p ≡ sbox (byte_of a 0) → q ≡ sbox (byte_of b 1) → r ≡ sbox (byte_of c 2) → s ≡ sbox (byte_of d 3)
    → word_bytes (bit_xor n k) ≡ last_column a b c d k
unfolding last_column
last_column_is a b c d k n p q r s is lp lq lr ls ep eq er es = word_sum n k p q r s is lp lq lr ls ∙
    rw (ep, eq, er, es) refl

pub columns-first : (w : List ℕ) (a b c d : ℕ)
    → added_bytes (word_bytes a) (word_bytes (get_or w 0 0)) ++ added_bytes (word_bytes b) (word_bytes (get_or w 1 0))
    ++ added_bytes (word_bytes c) (word_bytes (get_or w 2 0)) ++ added_bytes (word_bytes d) (word_bytes (get_or w 3 0))
    ≡ add_round_key w 0 (word_bytes a ++ word_bytes b ++ word_bytes c ++ word_bytes d)
unfolding add_round_key word_bytes
columns-first w a b c d = refl

-- the word of four bytes
pub word_of_bytes : (n p q r s : ℕ) → n ≡ from_be_bytes w32 (p ∷ q ∷ r ∷ s ∷ []) → p < 256 → q < 256 → r < 256 →
    s < 256 → word_bytes n ≡ p ∷ q ∷ r ∷ s ∷ []
unfolding word_bytes
word_of_bytes n p q r s is a b c d = be_bytes_4 (p ∷ q ∷ r ∷ s ∷ []) n refl (λ i. four_lt p q r s i a b c d) is

pub sixteen : (b : List ℕ) → length b ≡ 16 → b ≡ get_or b 0 0 ∷ get_or b 1 0 ∷ get_or b 2 0 ∷ get_or b 3 0 ∷ get_or b
    4 0 ∷ get_or b 5 0 ∷ get_or b 6 0 ∷ get_or b 7 0 ∷ get_or b 8 0 ∷ get_or b 9 0 ∷ get_or b 10 0 ∷ get_or b 11 0 ∷
    get_or b 12 0 ∷ get_or b 13 0 ∷ get_or b 14 0 ∷ get_or b 15 0 ∷ []
sixteen b long = fill_by_all (λ k. get_or b k 0) b 16 0 long (λ k lt. refl)
