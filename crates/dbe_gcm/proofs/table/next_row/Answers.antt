use Rattle.std.proofs.Common.{refl}
use Rattle.dbe_gcm.specs.Blocks.{raised}
use Rattle.dbe_gcm.proofs.table.next_row.Goals as goal

pub returns : goal.returns
unfolding raised
returns c = rw (c.times_x-4.ensures, c.times_x-3.ensures, c.times_x-2.ensures, c.times_x.ensures) refl
