use Rattle.dbe_aes.specs.Cipher.{cipher}
use Rattle.dbe_aes.proofs.key.Key256.enciphered.Goals as goal

pub returns : goal.returns
unfolding cipher
returns c = rw (← c.self.view_is, ← c.self.invariant) c.cipher_columns.ensures
