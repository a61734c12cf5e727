use Rattle.std.proofs.Common.{refl}
use Rattle.dbe_gcm.specs.Gcm.{tag_of}
use Rattle.dbe_gcm.proofs.seal.tag_of.Goals as goal

pub returns : goal.returns
unfolding tag_of
returns c = rw (
  c.to_be_bytes.ensures,
  c.hash-sum.ensures,
  c.hash_key.ensures,
  c.from_be_bytes.ensures,
  c.block.ensures,
  c.j0.ensures,
) refl
