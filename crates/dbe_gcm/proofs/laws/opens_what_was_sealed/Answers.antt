use Rattle.std.proofs.Common.{refl}
use Rattle.dbe_aes.proofs.Counters.{mode_twice}
use Rattle.dbe_aes.specs.Counters.{inc32}
use Rattle.dbe_gcm.specs.Gcm.{gcm, streamed, j0}
use Rattle.dbe_gcm.proofs.laws.opens_what_was_sealed.Goals as goal

pub returns-clause-tag : goal.returns-clause-tag
unfolding gcm
returns-clause-tag c = λ key iv aad text. refl

pub returns-clause-text : goal.returns-clause-text
unfolding gcm streamed
returns-clause-text c = λ key iv aad text. mode_twice key (inc32 (j0 iv)) text
