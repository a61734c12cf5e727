-- Counts that rise.
use Rattle.std.proofs.Common.{◌≡◌, ℕ, ◌+◌, arith}
use Rattle.dbe_table.specs.Rows.{risen}

pub risen_none : (count : ℕ) → risen count 0 ≡ count
risen_none count = omega arith

pub risen_twice : (count m n : ℕ) → risen (risen count m) n ≡ risen count (m + n)
risen_twice count m n = omega arith
