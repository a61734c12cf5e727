-- The table of a hash key: the products of each four bits of a block.
use Rattle.std.specs.Prelude.{◌≡◌, ℕ, ◌*◌, ◌/◌, ◌%◌, ◌^◌, ◌<◌, List, slice_index}
use Rattle.dbe_gcm.specs.Blocks.{product_of_bits, raised}

-- entry 16 i + n: n as the four bits 4 i, …, 4 i + 3 of a block, times h
unfoldable pub entry : ℕ → ℕ → ℕ
entry h k = product_of_bits 4 (k % 16) (raised (4 * (k / 16)) h)

-- t is the table of h
pub record IsTable (h : ℕ) (t : List ℕ) : Type 0 where
  pub small : h < 2 ^ 128
  pub entries : (k : ℕ) → k < 512 → slice_index t k ≡ entry h k
