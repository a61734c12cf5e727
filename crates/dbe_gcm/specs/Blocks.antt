-- Blocks of 128 bits as polynomials over bits, modulo x^128 + x^7 + x^2 + x + 1 (SP 800-38D, 6.3). A
-- block is the number of its 16 bytes, the first of them the highest: so its first bit, which is the
-- coefficient of 1, is the one of weight 2 ^ 127.
use Rattle.std.specs.Prelude.{ℕ, zero, suc, ◌*◌, ◌/◌, ◌%◌, ◌^◌, ◌==◌, bit_xor, if◌then◌else◌}
use Rattle.std.specs.Int.{bit_at}

-- the block times x: its bits move one place on, and in place of a last bit that is set comes R, the
-- bits 11100001 followed by 120 zeros
unfoldable pub times_x : ℕ → ℕ
times_x v = if v % 2 == 1 then bit_xor (v / 2) (0xe1 * 2 ^ 120) else v / 2

-- v times x to the power k
unfoldable pub raised : ℕ → ℕ → ℕ
raised zero v = v
raised (suc k) v = raised k (times_x v)

-- the sum of v, v x, v x^2, …, over those of the bits n - 1, n - 2, …, 0 of y that are set
unfoldable pub product_of_bits : ℕ → ℕ → ℕ → ℕ
product_of_bits zero y v = 0
product_of_bits (suc n) y v = bit_xor (if bit_at y n == 1 then v else 0) (product_of_bits n y (times_x v))

-- the product of two blocks (6.3)
unfoldable pub product : ℕ → ℕ → ℕ
product y v = product_of_bits 128 y v

-- h to the power n, where 1 is the block whose first bit alone is set (6.4)
unfoldable pub power : ℕ → ℕ → ℕ
power h zero = 2 ^ 127
power h (suc n) = product (power h n) h
