use Rattle.std.proofs.Common.{refl}
use Rattle.dbe_gcm.specs.Hash.{block_at}
use Rattle.dbe_gcm.proofs.Hashes.{sixteen}
use Rattle.dbe_gcm.proofs.hash.block_at.Goals as goal

pub returns : goal.returns
unfolding block_at
returns c = rw (sixteen c.args.bytes.now c.args.at c.requires, c.from_be_bytes.ensures) refl
