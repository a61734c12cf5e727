-- GHASH, block after block.
use Rattle.std.proofs.Common.{inl, inr, ◌≡◌, ℕ, suc, ◌+◌, ◌-◌, ◌*◌, ◌/◌, ◌%◌, ◌^◌, ◌<◌, ◌≤◌, List, [], ◌∷◌, ◌++◌}
use Rattle.std.proofs.Common.{bit_xor, refl, sym, ap, ◌∙◌, arith, add-one, length, get_or, take, drop, map}
use Rattle.std.proofs.Common.{length-append, length-drop}
use Rattle.std.specs.Prelude.{replicate}
use Rattle.std.specs.List.{range_with_len}
use Rattle.std.specs.Int.{w128, from_be_bytes}
use Rattle.std.specs.Int.Bits.{xor_assoc, xor_zero_r}
use Rattle.std.proofs.lemmas.Bool.{cases_lt}
use Rattle.std.proofs.lemmas.List.{ext_get_or, length_push, length-replicate, get_or-replicate, get_or_append_left}
use Rattle.std.proofs.lemmas.List.{get_or-append_right, get_or_past, get_or-take, get_or-drop, length-take-le}
use Rattle.std.proofs.lemmas.List.{take-append-le, drop-append-le, take_more, take_all}
use Rattle.std.proofs.lemmas.List.FromFn.{fill_by_all, take-map-range_with_len, get_or-map-range_with_len}
use Rattle.std.proofs.lemmas.List.FromFn.{length-map-range_with_len}
use Rattle.dbe_gcm.specs.Blocks.{product, power}
use Rattle.dbe_gcm.specs.Hash.{ghash, block_at, filled, blocks_of}
use Rattle.dbe_gcm.proofs.Products.{product_assoc, product-sum, power_lt, power-first, power-more}

pub ghash-nil : (h : ℕ) → ghash h [] ≡ 0
unfolding ghash
ghash-nil h = refl

-- one block more
pub ghash-push : (h x : ℕ) (xs : List ℕ) → h < 2 ^ 128 → ghash h (xs ++ x ∷ []) ≡ product (bit_xor (ghash h xs) x) h
unfolding ghash
ghash-push h x [] lt = xor_zero_r (product x (power h 1)) ∙ ap (product x) (power-first h lt)
ghash-push h x (y ∷ ys) lt =
    let longer : length (ys ++ x ∷ []) ≡ suc (length ys) = length_push ys x ∙ add-one (length ys) in
    rw (
      longer,
      ghash-push h x ys lt,
      xor_assoc (product y (power h (suc (length ys)))) (ghash h ys) x,
      product-sum (product y (power h (suc (length ys)))) (bit_xor (ghash h ys) x) h,
      product_assoc y (power h (suc (length ys))) h (power_lt h (suc (length ys)) lt) lt,
      power-more h (suc (length ys)),
    ) refl

-- ---- blocks of bytes

-- sixteen bytes, one by one
pub sixteen : (b : List ℕ) (i : ℕ) → i + 16 ≤ length b → take 16 (drop i b) ≡ get_or b i 0 ∷ get_or b (i + 1) 0 ∷
    get_or b (i + 2) 0 ∷ get_or b (i + 3) 0 ∷ get_or b (i + 4) 0 ∷ get_or b (i + 5) 0 ∷ get_or b (i + 6) 0 ∷ get_or b
    (i + 7) 0 ∷ get_or b (i + 8) 0 ∷ get_or b (i + 9) 0 ∷ get_or b (i + 10) 0 ∷ get_or b (i + 11) 0 ∷ get_or b
    (i + 12) 0 ∷ get_or b (i + 13) 0 ∷ get_or b (i + 14) 0 ∷ get_or b (i + 15) 0 ∷ []
sixteen b i long =
    let first : i + 0 ≡ i = omega arith in
    rw first at (fill_by_all (λ k. get_or b (i + k) 0) (take 16 (drop i b)) 16 0 (length-take-le 16 (drop i b)
    (omega (arith, length-drop i b))) (λ k lt. get_or-take 16 (drop i b) k 0 lt ∙ get_or-drop i b k 0))

pub length-filled : (bytes : List ℕ) → length (filled bytes) ≡ length bytes + (16 - length bytes % 16) % 16
unfolding filled
length-filled bytes = length-append bytes _ ∙ ap (λ (n : ℕ). length bytes + n) (length-replicate _ 0)

pub block_at-filled : (bytes : List ℕ) (i : ℕ) → i + 16 ≤ length bytes → block_at (filled bytes) i ≡ block_at bytes i
unfolding filled block_at
block_at-filled bytes i long =
    let front : drop i (bytes ++ replicate ((16 - length bytes % 16) % 16) 0) ≡ drop i bytes ++ replicate
    ((16 - length bytes % 16) % 16) 0 = drop-append-le i bytes _ (omega arith) in
    let room : 16 ≤ length (drop i bytes) = omega (arith, length-drop i bytes) in
    rw (front, take-append-le 16 (drop i bytes) (replicate ((16 - length bytes % 16) % 16) 0) room) refl

zero_at : (n k : ℕ) → get_or {A = ℕ} (replicate n 0) k 0 ≡ 0
zero_at n k = elim (cases_lt k n) [
  | inl a ↦ get_or-replicate n k 0 0 a
  | inr b ↦ get_or_past (replicate n 0) k 0 (omega (arith, length-replicate {A = ℕ} n 0))
]

filled_at : (bytes : List ℕ) (k : ℕ) → length bytes ≤ k → get_or (filled bytes) k 0 ≡ 0
unfolding filled
filled_at bytes k le =
    get_or-append_right bytes (replicate ((16 - length bytes % 16) % 16) 0) (length bytes) k 0 refl le ∙
    zero_at ((16 - length bytes % 16) % 16) (k - length bytes)

front_at : (bytes : List ℕ) (k : ℕ) → k < length bytes → get_or (filled bytes) k 0 ≡ get_or bytes k 0
unfolding filled
front_at bytes k lt = get_or_append_left bytes (replicate ((16 - length bytes % 16) % 16) 0) 0 k lt

-- the last bytes, filled with zeros
pub block_at-last : (bytes last : List ℕ) (i : ℕ) → i < length bytes → length bytes < i + 16 → i % 16 ≡ 0 →
    length last ≡ 16
    → ((k : ℕ) → k < length bytes - i → get_or last k 0 ≡ get_or bytes (i + k) 0) → ((k : ℕ) → length bytes - i ≤ k →
    get_or last k 0 ≡ 0)
    → from_be_bytes w128 last ≡ block_at (filled bytes) i
unfolding block_at
block_at-last bytes last i lt short whole long same zeros =
    let f = filled bytes in
    let all : length f ≡ i + 16 = omega (arith, length-filled bytes) in
    let room : length (take 16 (drop i f)) ≡ 16 = length-take-le 16 (drop i f) (omega (arith, length-drop i f)) in
    ap (from_be_bytes w128) (ext_get_or 0 last (take 16 (drop i f)) (long ∙
    sym room) (λ k within. elim (cases_lt k (length bytes - i)) [
      | inl a ↦ same k a ∙ sym (get_or-take 16 (drop i f) k 0 (omega arith) ∙ get_or-drop i f k 0 ∙
          front_at bytes (i + k) (omega arith))
      | inr b ↦ zeros k b ∙ sym (get_or-take 16 (drop i f) k 0 (omega arith) ∙ get_or-drop i f k 0 ∙
          filled_at bytes (i + k) (omega arith))
    ]))

-- the first n blocks
pub first_blocks : List ℕ → ℕ → List ℕ
first_blocks bytes n = map (λ j. block_at (filled bytes) (16 * j)) (range_with_len 0 n)

pub first_blocks-none : (bytes : List ℕ) → first_blocks bytes 0 ≡ []
unfolding first_blocks
first_blocks-none bytes = refl

pub first_blocks-more : (bytes : List ℕ) (n : ℕ) → first_blocks bytes (n + 1) ≡ first_blocks bytes n ++ block_at
    (filled bytes) (16 * n) ∷ []
unfolding first_blocks
first_blocks-more bytes n =
    let f : ℕ → ℕ = λ j. block_at (filled bytes) (16 * j) in
    let all = map f (range_with_len 0 (n + 1)) in
    let long : length all ≡ n + 1 = length-map-range_with_len f 0 (n + 1) in
    let front : take n all ≡ map f (range_with_len 0 n) = take-map-range_with_len f 0 (n + 1) n (omega arith) in
    let last : get_or all n 0 ≡ f n = get_or-map-range_with_len f 0 (n + 1) n n 0 (omega arith) (omega arith) in
    sym (take_all (n + 1) all (omega arith)) ∙ take_more all n 0 (omega arith) ∙ rw (front, last) refl

pub blocks_all : (bytes : List ℕ) (n : ℕ) → n ≡ length (filled bytes) / 16 → first_blocks bytes n ≡ blocks_of bytes
unfolding first_blocks blocks_of
blocks_all bytes n e = rw e refl
