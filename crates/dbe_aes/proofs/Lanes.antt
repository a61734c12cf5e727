-- The bytes of a vector of four words.
use Rattle.std.proofs.Common.{◌≡◌, ℕ, ◌+◌, ◌*◌, ◌/◌, ◌%◌, ◌^◌, ◌<◌, arith}

pub byte_0 : (a y : ℕ) → (a + 4294967296 * y) % 256 ≡ a % 256
byte_0 a y = omega arith

pub byte_1 : (a y : ℕ) → (a + 4294967296 * y) / 256 % 256 ≡ a / 256 % 256
byte_1 a y = omega arith

pub byte_2 : (a y : ℕ) → (a + 4294967296 * y) / 256 / 256 % 256 ≡ a / 65536 % 256
byte_2 a y = omega arith

pub byte_3 : (a y : ℕ) → (a + 4294967296 * y) / 256 / 256 / 256 % 256 ≡ a / 16777216 % 256
byte_3 a y = omega arith

pub next_word : (a y : ℕ) → a < 2 ^ 32 → (a + 4294967296 * y) / 256 / 256 / 256 / 256 ≡ y
next_word a y lt = omega arith
