use Rattle.std.proofs.Common.{refl}
use Rattle.dbe_aes.specs.States.{shift_rows}
use Rattle.dbe_aes.proofs.rounds.shift_rows.Goals as goal

pub returns : goal.returns
unfolding shift_rows
returns c = refl
