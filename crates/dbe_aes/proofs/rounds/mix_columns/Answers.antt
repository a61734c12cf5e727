use Rattle.std.proofs.Common.{refl}
use Rattle.dbe_aes.specs.States.{mix_columns}
use Rattle.dbe_aes.proofs.rounds.mix_columns.Goals as goal

pub returns : goal.returns
unfolding mix_columns
returns c = rw (c.mix_column-p.ensures, c.mix_column-q.ensures, c.mix_column-t.ensures, c.mix_column-u.ensures) refl
