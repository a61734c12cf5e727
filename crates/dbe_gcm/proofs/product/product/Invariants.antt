use Rattle.std.proofs.Common.{◌≡◌, ◌-◌, bit_xor}
use Rattle.dbe_gcm.specs.Blocks.{product_of_bits}
use Rattle.dbe_gcm.proofs.product.product.Given as goal

abbrev pub invariant-loop-i : goal.invariant-loop-i
invariant-loop-i l = bit_xor l.sum (product_of_bits (128 - l.i) l.y l.power) ≡ product_of_bits 128 l.y l.fn.v
