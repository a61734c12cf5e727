-- Sums of blocks.
use Rattle.std.proofs.Common.{◌≡◌, ℕ, zero, suc, ◌<◌, ◌==◌, Bool, true, false, bit_xor, if◌then◌else◌, refl, sym, ap}
use Rattle.std.proofs.Common.{◌∙◌, arith}
use Rattle.std.specs.Int.Bits.{xor_assoc, xor_self, xor_zero_r}
use Rattle.std.proofs.lemmas.Nat.{xor_comm}

-- a sum of two sums, in the other order
pub xor_crossed : (a b c d : ℕ) → bit_xor (bit_xor a b) (bit_xor c d) ≡ bit_xor (bit_xor a c) (bit_xor b d)
xor_crossed a b c d =
    xor_assoc a b (bit_xor c d) ∙ ap (bit_xor a) (sym (xor_assoc b c d) ∙ ap (λ y. bit_xor y d) (xor_comm b c) ∙
    xor_assoc c b d) ∙ sym (xor_assoc a c (bit_xor b d))

-- v where the bit is 1
abbrev pub where_set : ℕ → ℕ → ℕ
where_set b v = if b == 1 then v else 0

chosen_sum : (t : Bool) (u v : ℕ) → (if t then bit_xor u v else 0) ≡ bit_xor (if t then u else 0) (if t then v else 0)
chosen_sum true u v = refl
chosen_sum false u v = refl

pub where_set-xor : (b u v : ℕ) → where_set b (bit_xor u v) ≡ bit_xor (where_set b u) (where_set b v)
where_set-xor b u v = chosen_sum (b == 1) u v

-- two bits
pub xor_where_set : (a b v : ℕ) → a < 2 → b < 2 → where_set (bit_xor a b) v ≡ bit_xor (where_set a v) (where_set b v)
xor_where_set zero zero v p q = refl
xor_where_set zero (suc zero) v p q = refl
xor_where_set (suc zero) zero v p q = sym (xor_zero_r v)
xor_where_set (suc zero) (suc zero) v p q = sym (xor_self v)
xor_where_set zero (suc (suc b)) v p q = absurd (omega arith)
xor_where_set (suc zero) (suc (suc b)) v p q = absurd (omega arith)
xor_where_set (suc (suc a)) b v p q = absurd (omega arith)

-- a function of blocks, taken where the bit is set
chosen_of : (t : Bool) (f : ℕ → ℕ) (v : ℕ) → f 0 ≡ 0 → f (if t then v else 0) ≡ (if t then f v else 0)
chosen_of true f v z = refl
chosen_of false f v z = z

pub of_where_set : (f : ℕ → ℕ) (b v : ℕ) → f 0 ≡ 0 → f (where_set b v) ≡ where_set b (f v)
of_where_set f b v z = chosen_of (b == 1) f v z

chosen_lt : (t : Bool) (v n : ℕ) → 0 < n → v < n → (if t then v else 0) < n
chosen_lt true v n z h = h
chosen_lt false v n z h = z

pub where_set_lt : (b v n : ℕ) → 0 < n → v < n → where_set b v < n
where_set_lt b v n z h = chosen_lt (b == 1) v n z h

chosen_times : (t : Bool) (a r : ℕ) → (if t then bit_xor a r else a) ≡ bit_xor a (if t then r else 0)
chosen_times true a r = refl
chosen_times false a r = sym (xor_zero_r a)

pub sum_where_set : (b a r : ℕ) → (if b == 1 then bit_xor a r else a) ≡ bit_xor a (where_set b r)
sum_where_set b a r = chosen_times (b == 1) a r
