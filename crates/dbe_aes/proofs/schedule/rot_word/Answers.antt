use Rattle.std.proofs.Common.{refl}
use Rattle.dbe_aes.specs.Words.{rot_word}
use Rattle.dbe_aes.proofs.schedule.rot_word.Goals as goal

pub returns : goal.returns
unfolding rot_word
returns c = rw (c.from_be_bytes.ensures, c.to_be_bytes.ensures) refl
