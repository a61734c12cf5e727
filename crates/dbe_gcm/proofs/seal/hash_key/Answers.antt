use Rattle.std.proofs.Common.{refl}
use Rattle.dbe_gcm.specs.Gcm.{hash_key}
use Rattle.dbe_gcm.proofs.seal.hash_key.Goals as goal

pub returns : goal.returns
unfolding hash_key
returns c = rw (c.from_be_bytes.ensures, c.block.ensures) refl
