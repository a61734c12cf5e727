-- The product of blocks is linear in both, commutes and associates.
use Rattle.std.proofs.Common.{◌≡◌, ℕ, zero, suc, ◌+◌, ◌-◌, ◌*◌, ◌/◌, ◌%◌, ◌^◌, ◌<◌, ◌≤◌, ◌≢◌, bit_xor, refl, sym, ap}
use Rattle.std.proofs.Common.{◌∙◌, arith}
use Rattle.std.specs.Int.{bit_at}
use Rattle.std.specs.Int.Bits.{xor_assoc, xor_self, xor_zero_r, xor_shifted}
use Rattle.std.proofs.lemmas.Nat.{xor_shr, xor_mod, xor_lt, mod-pow-add, mod_below, pow_pos, shr-shr, shr_split}
use Rattle.std.proofs.Math.Nat.{pow-succ', add_comm}
use Rattle.std.proofs.lemmas.Nat.Bits.{bit_at_lowest, bit_at_cat_low, bit_at-pow_same, bit_at-pow_other, bit_at-lt}
use Rattle.std.proofs.lemmas.Nat.Bits.{bit_at-zero}
use Rattle.dbe_gcm.specs.Blocks.{raised, times_x, product_of_bits, product, power}
use Rattle.dbe_gcm.proofs.Xor.{xor_crossed, where_set, where_set-xor, xor_where_set, of_where_set, where_set_lt}
use Rattle.dbe_gcm.proofs.Xor.{sum_where_set}

times_x_is : (v : ℕ) → times_x v ≡ bit_xor (v / 2) (where_set (v % 2) (0xe1 * 2 ^ 120))
unfolding times_x
times_x_is v = sum_where_set (v % 2) (v / 2) (0xe1 * 2 ^ 120)

times_x-zero : times_x 0 ≡ 0
unfolding times_x
times_x-zero = refl

pub times_x-xor : (u v : ℕ) → times_x (bit_xor u v) ≡ bit_xor (times_x u) (times_x v)
times_x-xor u v =
    let half : bit_xor u v / 2 ≡ bit_xor (u / 2) (v / 2) = xor_shr u v 1 in
    let odd : bit_xor u v % 2 ≡ bit_xor (u % 2) (v % 2) = xor_mod u v 1 in
    rw (
      times_x_is (bit_xor u v),
      times_x_is u,
      times_x_is v,
      half,
      odd,
      xor_where_set (u % 2) (v % 2) (0xe1 * 2 ^ 120) (omega arith) (omega arith),
    )
    (xor_crossed (u / 2) (v / 2) (where_set (u % 2) (0xe1 * 2 ^ 120)) (where_set (v % 2) (0xe1 * 2 ^ 120)))

pub times_x_lt : (v : ℕ) → v < 2 ^ 128 → times_x v < 2 ^ 128
times_x_lt v h = rw (times_x_is v) (xor_lt 128 (v / 2) (where_set (v % 2) (0xe1 * 2 ^ 120)) (omega arith)
    (where_set_lt (v % 2) (0xe1 * 2 ^ 120) (2 ^ 128) (omega arith) (omega arith)))

pub bits-xor_right : (n y u v : ℕ) → product_of_bits n y (bit_xor u v) ≡ bit_xor (product_of_bits n y u)
    (product_of_bits n y v)
unfolding product_of_bits
bits-xor_right zero y u v = refl
bits-xor_right (suc n) y u v =
    rw (times_x-xor u v, bits-xor_right n y (times_x u) (times_x v), where_set-xor (bit_at y n) u v)
    (xor_crossed (where_set (bit_at y n) u) (where_set (bit_at y n) v) (product_of_bits n y (times_x u))
    (product_of_bits n y (times_x v)))

bit_at-xor : (x y n : ℕ) → bit_at (bit_xor x y) n ≡ bit_xor (bit_at x n) (bit_at y n)
bit_at-xor x y n = ap (λ (k : ℕ). k % 2) (xor_shr x y n) ∙ xor_mod (x / 2 ^ n) (y / 2 ^ n) 1

pub bits-xor_left : (n x y v : ℕ) → product_of_bits n (bit_xor x y) v ≡ bit_xor (product_of_bits n x v)
    (product_of_bits n y v)
unfolding product_of_bits
bits-xor_left zero x y v = refl
bits-xor_left (suc n) x y v =
    rw (
      bit_at-xor x y n,
      bits-xor_left n x y (times_x v),
      xor_where_set (bit_at x n) (bit_at y n) v (bit_at-lt x n)
          (bit_at-lt y n),
    )
    (xor_crossed (where_set (bit_at x n) v) (where_set (bit_at y n) v) (product_of_bits n x (times_x v))
    (product_of_bits n y (times_x v)))

pub times_x-bits : (n y v : ℕ) → times_x (product_of_bits n y v) ≡ product_of_bits n y (times_x v)
unfolding product_of_bits
times_x-bits zero y v = times_x-zero
times_x-bits (suc n) y v =
    times_x-xor (where_set (bit_at y n) v) (product_of_bits n y (times_x v))
    ∙ rw (of_where_set times_x (bit_at y n) v times_x-zero, times_x-bits n y (times_x v)) refl

pub bits_lt : (n y v : ℕ) → v < 2 ^ 128 → product_of_bits n y v < 2 ^ 128
unfolding product_of_bits
bits_lt zero y v h = omega arith
bits_lt (suc n) y v h =
    xor_lt 128 (where_set (bit_at y n) v) (product_of_bits n y (times_x v)) (where_set_lt (bit_at y n) v (2 ^ 128)
    (omega arith) h) (bits_lt n y (times_x v) (times_x_lt v h))

bits-zero_left : (n v : ℕ) → product_of_bits n 0 v ≡ 0
unfolding product_of_bits
bits-zero_left zero v = refl
bits-zero_left (suc n) v = rw (bit_at-zero n, bits-zero_left n (times_x v)) refl

bits-zero_right : (n y : ℕ) → product_of_bits n y 0 ≡ 0
bits-zero_right n y = let e = bits-xor_right n y 0 0 in e ∙ xor_self (product_of_bits n y 0)

pub bits_none : (y v : ℕ) → product_of_bits 0 y v ≡ 0
unfolding product_of_bits
bits_none y v = refl

-- ---- powers of x

times_x-pow : (m : ℕ) → times_x (2 ^ suc m) ≡ 2 ^ m
times_x-pow m =
    let double : 2 ^ suc m ≡ 2 * 2 ^ m = pow-succ' 2 m in
    let even : 2 ^ suc m % 2 ≡ 0 = omega (arith, double) in
    let half : 2 ^ suc m / 2 ≡ 2 ^ m = omega (arith, double) in
    times_x_is (2 ^ suc m) ∙ rw (even, half) (xor_zero_r (2 ^ m))

raised-bits : (k n y v : ℕ) → raised k (product_of_bits n y v) ≡ product_of_bits n y (raised k v)
unfolding raised
raised-bits zero n y v = refl
raised-bits (suc k) n y v = ap (raised k) (times_x-bits n y v) ∙ raised-bits k n y (times_x v)

raised-pow : (k m : ℕ) → raised k (2 ^ (k + m)) ≡ 2 ^ m
unfolding raised
raised-pow zero m = let e : 0 + m ≡ m = omega arith in rw e refl
raised-pow (suc k) m =
    let e : suc k + m ≡ suc (k + m) = omega arith in
    rw (e, times_x-pow (k + m)) (raised-pow k m)

-- the bits below the one that is set
bits_below : (n m v : ℕ) → n ≤ m → product_of_bits n (2 ^ m) v ≡ 0
unfolding product_of_bits
bits_below zero m v le = refl
bits_below (suc n) m v le =
    let ne : n ≢ m = omega arith in
    rw (bit_at-pow_other m n ne, bits_below n m (times_x v) (omega arith)) refl

-- one bit times v
bits_single : (k m v n : ℕ) → n ≡ k + suc m → product_of_bits n (2 ^ m) v ≡ raised k v
unfolding product_of_bits raised
bits_single zero m v n e =
    let f : n ≡ suc m = omega arith in
    rw (f, bit_at-pow_same m, bits_below m m (times_x v) (omega arith)) (xor_zero_r v)
bits_single (suc k) m v n e =
    let f : n ≡ suc (k + suc m) = omega arith in
    let ne : k + suc m ≢ m = omega arith in
    rw (f, bit_at-pow_other m (k + suc m) ne) (bits_single k m (times_x v) (k + suc m) refl)

bits_more : (n y v : ℕ) → product_of_bits (suc n) y v ≡ bit_xor (where_set (bit_at y n) v)
    (product_of_bits n y (times_x v))
unfolding product_of_bits
bits_more n y v = refl

where_set-pow : (b v : ℕ) → b < 2 → where_set b v ≡ b * v
where_set-pow zero v h = omega arith
where_set-pow (suc zero) v h = omega arith
where_set-pow (suc (suc b)) v h = absurd (omega arith)

-- the low bits of a number, one more
low_bits : (n y : ℕ) → bit_xor (where_set (bit_at y n) (2 ^ n)) (y % 2 ^ n) ≡ y % 2 ^ suc n
low_bits n y =
    let e : 1 + n ≡ suc n = omega arith in
    let split = mod-pow-add y 1 n in
    rw (
      where_set-pow (bit_at y n) (2 ^ n) (bit_at-lt y n),
      xor_shifted (bit_at y n) n (y % 2 ^ n) (mod_below y (2 ^ n) (pow_pos n)),
    ) (sym (rw e at split))

-- z times 1
bits_one : (n z : ℕ) → product_of_bits (suc n) z (2 ^ n) ≡ z % 2 ^ suc n
bits_one zero z =
    bits_more 0 z 1 ∙ rw (
      bits_none z (times_x 1),
      xor_zero_r (where_set (bit_at z 0) 1),
      where_set-pow (bit_at z 0) 1 (bit_at-lt z 0),
    ) (omega (arith, bit_at_lowest z))
bits_one (suc n) z =
    bits_more (suc n) z (2 ^ suc n) ∙ rw (times_x-pow n, bits_one n z) (low_bits (suc n) z)

pub product-one_right : (z : ℕ) → z < 2 ^ 128 → product z (2 ^ 127) ≡ z
unfolding product
product-one_right z h = let e : z % 2 ^ 128 ≡ z = omega arith in bits_one 127 z ∙ e

-- ---- the product commutes

product-xor_left : (x y z : ℕ) → product (bit_xor x y) z ≡ bit_xor (product x z) (product y z)
unfolding product
product-xor_left x y z = bits-xor_left 128 x y z

product-xor_right : (x y z : ℕ) → product x (bit_xor y z) ≡ bit_xor (product x y) (product x z)
unfolding product
product-xor_right x y z = bits-xor_right 128 x y z

product-zero_left : (z : ℕ) → product 0 z ≡ 0
unfolding product
product-zero_left z = bits-zero_left 128 z

product-zero_right : (z : ℕ) → product z 0 ≡ 0
unfolding product
product-zero_right z = bits-zero_right 128 z

product_single : (k m z : ℕ) → k + suc m ≡ 128 → z < 2 ^ 128 → product (2 ^ m) z ≡ product z (2 ^ m)
unfolding product
product_single k m z e h =
    let all : k + m ≡ 127 = omega arith in
    let one : 2 ^ (k + m) ≡ 2 ^ 127 = ap (λ (j : ℕ). 2 ^ j) all in
    let back : raised k (2 ^ 127) ≡ 2 ^ m = rw one at (raised-pow k m) in
    bits_single k m z 128 (sym e) ∙ ap (raised k) (sym (product-one_right z h)) ∙ raised-bits k 128 z (2 ^ 127) ∙
    ap (product_of_bits 128 z) back

product_low : (n y z : ℕ) → n ≤ 128 → z < 2 ^ 128 → product (y % 2 ^ n) z ≡ product z (y % 2 ^ n)
product_low zero y z le h =
    let none : y % 2 ^ 0 ≡ 0 = omega arith in
    rw none (product-zero_left z ∙ sym (product-zero_right z))
product_low (suc n) y z le h =
    let single = product_single (127 - n) n z (omega arith) h in
    rw (
      ← low_bits n y,
      product-xor_left,
      product-xor_right,
      product_low n y z (omega arith) h,
      of_where_set (λ x. product x z) (bit_at y n) (2 ^ n) (product-zero_left z),
      of_where_set (λ x. product z x) (bit_at y n) (2 ^ n) (product-zero_right z),
      single,
    ) refl

pub product_comm : (y z : ℕ) → y < 2 ^ 128 → z < 2 ^ 128 → product y z ≡ product z y
product_comm y z g h =
    let whole : y % 2 ^ 128 ≡ y = omega arith in
    rw whole at (product_low 128 y z (omega arith) h)

-- ---- and associates

product_lt : (y z : ℕ) → z < 2 ^ 128 → product y z < 2 ^ 128
unfolding product
product_lt y z h = bits_lt 128 y z h

product-times_x_right : (y z : ℕ) → product y (times_x z) ≡ times_x (product y z)
unfolding product
product-times_x_right y z = sym (times_x-bits 128 y z)

product-times_x_left : (v z : ℕ) → v < 2 ^ 128 → z < 2 ^ 128 → product (times_x v) z ≡ times_x (product v z)
product-times_x_left v z g h =
    product_comm (times_x v) z (times_x_lt v g) h ∙ product-times_x_right z v ∙ ap times_x (product_comm z v h g)

bits_assoc : (n x v z : ℕ) → v < 2 ^ 128 → z < 2 ^ 128 → product (product_of_bits n x v) z ≡ product_of_bits n x
    (product v z)
bits_assoc zero x v z g h = rw (bits_none x v, bits_none x (product v z)) (product-zero_left z)
bits_assoc (suc n) x v z g h =
    rw (
      bits_more n x v,
      bits_more n x (product v z),
      product-xor_left,
      bits_assoc n x (times_x v) z (times_x_lt v g) h,
      product-times_x_left v z g h,
      of_where_set (λ y. product y z) (bit_at x n) v (product-zero_left z),
    ) refl

pub product_assoc : (x v z : ℕ) → v < 2 ^ 128 → z < 2 ^ 128 → product (product x v) z ≡ product x (product v z)
product_assoc x v z g h = unfold product in bits_assoc 128 x v z g h

pub product-sum : (x y z : ℕ) → product (bit_xor x y) z ≡ bit_xor (product x z) (product y z)
product-sum = product-xor_left

pub power_lt : (h n : ℕ) → h < 2 ^ 128 → power h n < 2 ^ 128
unfolding power
power_lt h zero lt = omega arith
power_lt h (suc n) lt = product_lt (power h n) h lt

pub power-first : (h : ℕ) → h < 2 ^ 128 → power h 1 ≡ h
unfolding power
power-first h lt = product_comm (2 ^ 127) h (omega arith) lt ∙ product-one_right h lt

pub power-more : (h n : ℕ) → product (power h n) h ≡ power h (suc n)
unfolding power
power-more h n = refl

-- ---- the product as a running sum

pub sum_more : (sum y v n m k : ℕ) → m ≡ suc n → k ≡ n →
    bit_xor sum (product_of_bits m y v) ≡ bit_xor (bit_xor sum (where_set (bit_at y n) v))
    (product_of_bits k y (times_x v))
sum_more sum y v n m k e d =
    rw (e, d, bits_more n y v) (sym (xor_assoc sum (where_set (bit_at y n) v) (product_of_bits n y (times_x v))))

pub sum_all : (sum y v u n : ℕ) → n ≡ 0 → bit_xor sum (product_of_bits n y v) ≡ product_of_bits 128 y u →
    sum ≡ product y u
unfolding product
sum_all sum y v u n e h = sym (xor_zero_r sum) ∙ ap (bit_xor sum) (sym (bits_none y v)) ∙ rw e at h

-- ---- the product, some bits at a time

pub raised-more : (j k v : ℕ) → raised (j + k) v ≡ raised k (raised j v)
unfolding raised
raised-more zero k v = let e : zero + k ≡ k = omega arith in rw e refl
raised-more (suc j) k v = let e : suc j + k ≡ suc (j + k) = omega arith in rw e (raised-more j k (times_x v))

pub bits-cut : (k m y v : ℕ) → product_of_bits (k + m) y v ≡ bit_xor (product_of_bits k (y / 2 ^ m) v)
    (product_of_bits m y (raised k v))
unfolding raised
bits-cut zero m y v = let e : zero + m ≡ m = omega arith in rw (e, bits_none (y / 2 ^ m) v) refl
bits-cut (suc k) m y v =
    let e : suc k + m ≡ suc (k + m) = omega arith in
    let bit : bit_at y (k + m) ≡ bit_at (y / 2 ^ m) k =
    ap (λ (z : ℕ). z % 2) (ap (λ (j : ℕ). y / 2 ^ j) (add_comm k m) ∙ sym (shr-shr y m k)) in
    rw (e, bits_more (k + m) y v, bits_more k (y / 2 ^ m) v, bits-cut k m y (times_x v), bit)
    (sym (xor_assoc (where_set (bit_at (y / 2 ^ m) k) v) (product_of_bits k (y / 2 ^ m) (times_x v))
    (product_of_bits m y (raised k (times_x v)))))

-- only the low bits count
pub bits_low : (k j y v : ℕ) → k ≤ j → product_of_bits k (y % 2 ^ j) v ≡ product_of_bits k y v
bits_low zero j y v le = rw (bits_none (y % 2 ^ j) v, bits_none y v) refl
bits_low (suc k) j y v le =
    let bit : bit_at (y % 2 ^ j) k ≡ bit_at y k = sym (bit_at_cat_low (y / 2 ^ j) j (y % 2 ^ j) k (omega arith)) ∙
    ap (λ (z : ℕ). bit_at z k) (shr_split y j) in
    rw (bits_more k (y % 2 ^ j) v, bits_more k y v, bit, bits_low k j y (times_x v) (omega arith)) refl
