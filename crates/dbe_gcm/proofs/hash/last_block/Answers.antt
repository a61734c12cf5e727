use Rattle.std.proofs.Common.{arith, ◌∙◌}
use Rattle.dbe_gcm.proofs.Hashes.{block_at-last}
use Rattle.dbe_gcm.proofs.hash.last_block.Goals as goal

pub returns : goal.returns
returns c =
    let i = c.loop-i.invariant in
    c.from_be_bytes.ensures ∙ block_at-last c.args.bytes.now c.loop-i.last c.args.at c.requires.within
    c.requires.short c.requires.whole i.long (λ k lt. i.same k (omega arith)) (λ k le. i.zeros k (omega arith))
