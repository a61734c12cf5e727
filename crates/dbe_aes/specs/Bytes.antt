-- Bytes as polynomials over bits, modulo x^8 + x^4 + x^3 + x + 1 (FIPS 197, 4). Bit i of a byte is
-- the coefficient of x^i.
use Rattle.std.specs.Prelude.{ℕ, zero, suc, ◌+◌, ◌-◌, ◌*◌, ◌/◌, ◌%◌, ◌==◌, bit_xor, nat_lt, if◌then◌else◌}
use Rattle.std.specs.Int.{bit_at}

-- the byte times x (4.2)
abbrev pub times_x : ℕ → ℕ
times_x a = if nat_lt a 128 then 2 * a else bit_xor (2 * a - 256) 0x1b

-- the sum of a x^i over those of the first n bits i of b that are set
unfoldable pub product_of_bits : ℕ → ℕ → ℕ → ℕ
product_of_bits zero a b = 0
product_of_bits (suc n) a b = bit_xor ((b % 2) * a) (product_of_bits n (times_x a) (b / 2))

-- the product of two bytes (4.2)
unfoldable pub product : ℕ → ℕ → ℕ
product a b = product_of_bits 8 a b

-- the first of n bytes from y on whose product with x is 1, or 0
unfoldable pub inverse_from : ℕ → ℕ → ℕ → ℕ
inverse_from zero y x = 0
inverse_from (suc n) y x = if product x y == 1 then y else inverse_from n (y + 1) x

-- the inverse of a byte, and 0 for 0 (4.4, 5.1.1)
unfoldable pub inverse : ℕ → ℕ
inverse x = inverse_from 256 0 x

-- bit i of the affine map of b, whose constant is 0x63 (5.1.1)
abbrev affine_bit : ℕ → ℕ → ℕ
affine_bit b i = (bit_at b i + bit_at b ((i + 4) % 8) + bit_at b ((i + 5) % 8) + bit_at b ((i + 6) % 8) + bit_at b
    ((i + 7) % 8) + bit_at 0x63 i) % 2

-- the affine map (5.1.1)
unfoldable pub affine : ℕ → ℕ
affine b = affine_bit b 0 + 2 * affine_bit b 1 + 4 * affine_bit b 2 + 8 * affine_bit b 3 + 16 * affine_bit b 4 + 32 *
    affine_bit b 5 + 64 * affine_bit b 6 + 128 * affine_bit b 7

-- SBox: the inverse, and then the affine map (5.1.1)
unfoldable pub sbox : ℕ → ℕ
sbox x = affine (inverse x)
