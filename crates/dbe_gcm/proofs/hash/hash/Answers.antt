use Rattle.std.proofs.Common.{[], ◌++◌, sym, refl, ◌∙◌}
use Rattle.dbe_gcm.specs.Hash.{blocks_of}
use Rattle.dbe_gcm.specs.Gcm.{hash_of}
use Rattle.dbe_gcm.proofs.Hashes.{ghash-nil}
use Rattle.dbe_gcm.proofs.hash.hash.Goals as goal

pub returns : goal.returns
unfolding hash_of
returns c =
    let h = c.args.h in
    let table = c.fill_table.ensures in
    let first = c.absorb.ensures h [] table (sym (ghash-nil c.args.h)) in
    let second = c.absorb-sum.ensures h (blocks_of c.args.aad.now) table first in
    let third = c.absorb_block.ensures h (blocks_of c.args.aad.now ++ blocks_of c.args.text.now) table second in
    third ∙ rw c.lengths_block.ensures refl
