use Rattle.std.proofs.Common.{refl}
use Rattle.dbe_gcm.specs.Gcm.{gcm, streamed}
use Rattle.dbe_gcm.proofs.seal.seal_in_place.Goals as goal

pub returns-clause-ciphertext : goal.returns-clause-ciphertext
unfolding gcm streamed
returns-clause-ciphertext c = rw (c.ctr.ensures, c.after_j0.ensures) refl

pub returns-clause-tag : goal.returns-clause-tag
unfolding gcm streamed
returns-clause-tag c = rw (c.tag_of.ensures, c.ctr.ensures, c.after_j0.ensures) refl
