-- Numbers compared by their digits and places.
use Rattle.std.proofs.Common.{◌≡◌, ◌≢◌, ℕ, zero, suc, ◌+◌, ◌-◌, ◌*◌, ◌^◌, ◌<◌, ◌≤◌, true, false, pos, neg_ℤ, refl}
use Rattle.std.proofs.Common.{sym, ap, ◌∙◌, arith, ◌⊎◌, inl, inr, mul_assoc}
use Rattle.std.proofs.Common.{nat_cmp, int_cmp, Ordering, Less, Equal, Greater}
use Rattle.std.specs.Ordering.{ordering_reverse}
use Rattle.std.proofs.lemmas.Bool.Decides.{nat_tests}
use Rattle.std.proofs.lemmas.Nat.{mul-le, pow-add}
use Rattle.std.proofs.Math.Nat.{pow-le-pow_right}
use Rattle.dbe_num.specs.Decimal.{Decimal, IsNormal, number_order}
use Rattle.dbe_num.proofs.Digits.{ten_pow_pos}

cmp_less : (x y : ℕ) → x < y → nat_cmp x y ≡ Less
cmp_less x y h = grind (arith, nat_tests)

cmp_greater : (x y : ℕ) → y < x → nat_cmp x y ≡ Greater
cmp_greater x y h = grind (arith, nat_tests)

cmp_equal : (x : ℕ) → nat_cmp x x ≡ Equal
cmp_equal x = grind (arith, nat_tests)

pub three_ways : (x y : ℕ) → (x < y) ⊎ ((y < x) ⊎ (x ≡ y))
three_ways x y = grind arith

pub times_below : (x y k : ℕ) → x < y → 0 < k → x * k < y * k
times_below x y k h p = omega (arith, mul-le (x + 1) k y k (omega arith) (omega arith))

cmp_scaled : (x y k : ℕ) → 0 < k → nat_cmp (x * k) (y * k) ≡ nat_cmp x y
cmp_scaled x y k p =
    elim (three_ways x y) [
      | inl h ↦ cmp_less (x * k) (y * k) (times_below x y k h p) ∙ sym (cmp_less x y h)
      | inr h ↦
          elim h [
            | inl g ↦ cmp_greater (x * k) (y * k) (times_below y x k g p) ∙ sym (cmp_greater x y g)
            | inr e ↦ rw e (cmp_equal (y * k) ∙ sym (cmp_equal y))
          ]
    ]

pub cmp_reversed : (x y : ℕ) → ordering_reverse (nat_cmp x y) ≡ nat_cmp y x
cmp_reversed x y =
    elim (three_ways x y) [
      | inl h ↦ ap ordering_reverse (cmp_less x y h) ∙ sym (cmp_greater y x h)
      | inr h ↦
          elim h [
            | inl g ↦ ap ordering_reverse (cmp_greater x y g) ∙ sym (cmp_less y x g)
            | inr e ↦ rw e (ap ordering_reverse (cmp_equal y) ∙ sym (cmp_equal y))
          ]
    ]

-- a number that stands p - q places higher
pub cmp_places : (a b p q : ℕ) → q ≤ p → nat_cmp (a * 10 ^ (p - q)) b ≡ nat_cmp (a * 10 ^ p) (b * 10 ^ q)
cmp_places a b p q h =
    let whole : p - q + q ≡ p = omega arith in
    let raised : a * 10 ^ (p - q) * 10 ^ q ≡ a * 10 ^ p = mul_assoc a (10 ^ (p - q)) (10 ^ q) ∙
    ap (λ x. a * x) (sym (pow-add 10 (p - q) q)) ∙ ap (λ x. a * 10 ^ x) whole in
    sym (cmp_scaled (a * 10 ^ (p - q)) b (10 ^ q) (omega (arith, ten_pow_pos q))) ∙
    ap (λ x. nat_cmp x (b * 10 ^ q)) raised

-- 38 places higher, a number is larger than any of 38 digits
pub cmp_far : (a by b : ℕ) → a ≢ 0 → 38 ≤ by → b < 10 ^ 38 → Greater ≡ nat_cmp (a * 10 ^ by) b
cmp_far a by b some far few =
    let high : 10 ^ 38 ≤ 10 ^ by = pow-le-pow_right {n = 10} (omega arith) {i = 38} {j = by} far in
    sym (cmp_greater (a * 10 ^ by) b (omega (arith, mul-le 1 (10 ^ by) a (10 ^ by) (omega arith) (omega arith))))

pub pow_fits : (by : ℕ) → by < 38 → 10 ^ by < 2 ^ 128
pow_fits by h =
    let high : 10 ^ by ≤ 10 ^ 38 = pow-le-pow_right {n = 10} (omega arith) {i = by} {j = 38} (omega arith) in
    omega arith

-- ---- signs

below_zero : (m k : ℕ) → 0 < m → int_cmp (neg_ℤ (pos m)) (pos k) ≡ Less
below_zero zero k h = absurd (omega arith)
below_zero (suc m) k h = refl

above_zero : (m k : ℕ) → 0 < m → int_cmp (pos k) (neg_ℤ (pos m)) ≡ Greater
above_zero zero k h = absurd (omega arith)
above_zero (suc m) k h = refl

some_units : (d : Decimal) → IsNormal d → d.negative ≡ true → 0 < d.digits * 10 ^ d.place
some_units d normal negative =
    let some : d.digits ≢ 0 = λ z. cc (ap (λ x. x.negative) (normal.one_zero z)) in
    omega (arith, mul-le 1 1 d.digits (10 ^ d.place) (omega arith) (ten_pow_pos d.place))

pub negative_first : (a b : Decimal) → IsNormal a → a.negative ≡ true → b.negative ≡ false → Less ≡ number_order a b
negative_first a b normal e f =
    rw (e, f) (sym (below_zero (a.digits * 10 ^ a.place) (b.digits * 10 ^ b.place) (some_units a normal e)))

pub negative_last : (a b : Decimal) → IsNormal b → a.negative ≡ false → b.negative ≡ true → Greater ≡ number_order a b
negative_last a b normal e f =
    rw (e, f) (sym (above_zero (b.digits * 10 ^ b.place) (a.digits * 10 ^ a.place) (some_units b normal f)))

-- what the code has of two numbers
pub sizes_compared : (a b : Decimal) (x y p q : ℕ) (r : Ordering) → x ≡ a.digits → y ≡ b.digits → p ≡ a.place →
    q ≡ b.place → q ≤ p → r ≡ nat_cmp (x * 10 ^ (p - q)) y →
    r ≡ nat_cmp (a.digits * 10 ^ a.place) (b.digits * 10 ^ b.place)
sizes_compared a b x y p q r e f g h le given = given ∙ cmp_places x y p q le ∙ rw (e, f, g, h)
