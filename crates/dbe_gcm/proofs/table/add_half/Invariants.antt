use Rattle.std.proofs.Common.{◌≡◌, ℕ, ◌+◌, ◌-◌, ◌*◌, bit_xor}
use Rattle.dbe_gcm.specs.Blocks.{product_of_bits, raised}
use Rattle.dbe_gcm.specs.Tables.{IsTable}
use Rattle.dbe_gcm.proofs.table.add_half.Given as goal

abbrev pub invariant-loop-i : goal.invariant-loop-i
invariant-loop-i l = (h : ℕ) → IsTable h l.table
    → bit_xor l.sum (product_of_bits (64 - 4 * l.i) l.bits (raised (4 * (l.first + l.i)) h)) ≡ bit_xor l.fn.sum
    (product_of_bits 64 l.bits (raised (4 * l.first) h))
