use Rattle.std.specs.Int.Bits.{xor_zero_r}
use Rattle.dbe_gcm.specs.Blocks.{product_of_bits}
use Rattle.dbe_gcm.proofs.table.row.Goals as goal

pub returns : goal.returns
unfolding product_of_bits
returns c = rw (c.times_x-w1.ensures, c.times_x-w2.ensures, c.times_x-w4.ensures) (simp xor_zero_r)
