-- Products four bits at a time, by a table.
use Rattle.std.proofs.Common.{◌≡◌, ℕ, ◌+◌, ◌-◌, ◌*◌, ◌/◌, ◌%◌, ◌^◌, ◌<◌, ◌≤◌, List, bit_xor, bit_and, refl, sym, ap}
use Rattle.std.proofs.Common.{◌∙◌, arith, length, get_or, map}
use Rattle.std.specs.Prelude.{set}
use Rattle.std.specs.List.{range_with_len}
use Rattle.std.specs.Int.Bits.{xor_assoc, xor_zero_r}
use Rattle.std.proofs.lemmas.Nat.{and_mask}
use Rattle.std.proofs.lemmas.List.FromFn.{get_or-map-range_with_len}
use Rattle.std.proofs.lemmas.List.Edits.{fill_by_more}
use Rattle.dbe_gcm.specs.Blocks.{product_of_bits, product, raised}
use Rattle.dbe_gcm.specs.Tables.{IsTable, entry}
use Rattle.dbe_gcm.proofs.Products.{bits-cut, bits_low, bits_none, raised-more}

pub entry_at : (h i n k : ℕ) → k ≡ 16 * i + n → n < 16 → entry h k ≡ product_of_bits 4 n (raised (4 * i) h)
unfolding entry
entry_at h i n k at lt =
    let low : k % 16 ≡ n = omega arith in
    let high : k / 16 ≡ i = omega arith in
    rw (low, high) refl

-- one entry more
pub entries_more : (h : ℕ) (t row : List ℕ) (v i n : ℕ) → 16 * i + n < length t → n < 16
    → row ≡ map (λ j. product_of_bits 4 j v) (range_with_len 0 16) → v ≡ raised (4 * i) h
    → ((k : ℕ) → k < 16 * i + n → get_or t k 0 ≡ entry h k)
    → (k : ℕ) → k < 16 * i + n + 1 → get_or (set t (16 * i + n) (get_or row n 0)) k 0 ≡ entry h k
entries_more h t row v i n lt small rows is before =
    let here : get_or row n 0 ≡ entry h (16 * i + n) =
    rw rows (get_or-map-range_with_len (λ j. product_of_bits 4 j v) 0 16 n n 0 small (omega arith)) ∙
    ap (product_of_bits 4 n) is ∙ sym (entry_at h i n (16 * i + n) refl small) in
    rw here (fill_by_more (entry h) t (16 * i + n) 0 lt before)

-- the next power
pub raised_four : (h v i : ℕ) → v ≡ raised (4 * i) h → raised 4 v ≡ raised (4 * (i + 1)) h
raised_four h v i is =
    let e : 4 * i + 4 ≡ 4 * (i + 1) = omega arith in
    ap (raised 4) is ∙ sym (raised-more (4 * i) 4 h) ∙ ap (λ k. raised k h) e

-- four bits more of a running sum
pub half_more : (h : ℕ) (t : List ℕ) (first i bits sum whole : ℕ) → IsTable h t → i < 16 → first ≤ 16
    → bit_xor sum (product_of_bits (64 - 4 * i) bits (raised (4 * (first + i)) h)) ≡ whole
    → bit_xor (bit_xor sum (get_or t (16 * (first + i) + bit_and (bits / 2 ^ (60 - 4 * i)) 15) 0))
    (product_of_bits (64 - 4 * (i + 1)) bits (raised (4 * (first + (i + 1))) h)) ≡ whole
half_more h t first i bits sum whole table lt within before =
    let m = 60 - 4 * i in
    let v = raised (4 * (first + i)) h in
    let n = bits / 2 ^ m % 16 in
    let mask : bit_and (bits / 2 ^ (60 - 4 * i)) 15 ≡ n = and_mask (bits / 2 ^ m) 4 in
    let small : n < 16 = omega arith in
    let place : 16 * (first + i) + n < 512 = omega arith in
    let value : get_or t (16 * (first + i) + n) 0 ≡ product_of_bits 4 n v =
    table.entries (16 * (first + i) + n) place ∙ entry_at h (first + i) n (16 * (first + i) + n) refl small in
    let now : 64 - 4 * i ≡ 4 + m = omega arith in
    let next : 64 - 4 * (i + 1) ≡ m = omega arith in
    let row : first + (i + 1) ≡ first + i + 1 = omega arith in
    let power : raised 4 v ≡ raised (4 * (first + i + 1)) h = raised_four h v (first + i) refl in
    let cut : product_of_bits (64 - 4 * i) bits v ≡ bit_xor (product_of_bits 4 n v)
    (product_of_bits m bits (raised 4 v)) =
    ap (λ k. product_of_bits k bits v) now ∙ bits-cut 4 m bits v ∙
    ap (λ x. bit_xor x (product_of_bits m bits (raised 4 v))) (sym (bits_low 4 4 (bits / 2 ^ m) v (omega arith))) in
    rw (mask, value, next, row, ← power) (xor_assoc sum (product_of_bits 4 n v) (product_of_bits m bits (raised 4 v))
    ∙ ap (bit_xor sum) (sym cut) ∙ before)

pub half_all : (h sum first i bits whole : ℕ) → i ≡ 16 →
    bit_xor sum (product_of_bits (64 - 4 * i) bits (raised (4 * (first + i)) h)) ≡ whole → sum ≡ whole
half_all h sum first i bits whole e before =
    let none : 64 - 4 * i ≡ 0 = omega arith in
    sym (xor_zero_r sum) ∙ ap (bit_xor sum) (sym (bits_none bits (raised (4 * (first + i)) h))) ∙ rw none at before

pub raised-none : (h : ℕ) → raised 0 h ≡ h
unfolding raised
raised-none h = refl

-- both halves
pub halves : (h y : ℕ) → bit_xor (bit_xor 0 (product_of_bits 64 (y / 2 ^ 64) (raised (4 * 0) h)))
    (product_of_bits 64 (y % 2 ^ 64) (raised (4 * 16) h)) ≡ product y h
unfolding product
halves h y =
    let whole = raised-none h in
    rw (bits_low 64 64 y (raised 64 h) (omega arith), whole) (sym (bits-cut 64 64 y h))
