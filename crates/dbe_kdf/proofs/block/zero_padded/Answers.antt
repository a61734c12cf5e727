use Rattle.std.proofs.lemmas.List.{drop-replicate}
use Rattle.dbe_kdf.proofs.block.zero_padded.Goals as goal

pub returns : goal.returns
returns c = rw (c.copy_from_slice.ensures.after, c.split_at_mut-front.ensures.back, drop-replicate)
