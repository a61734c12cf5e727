use Rattle.std.proofs.Common.{◌≡◌, ◌+◌, ◌*◌, ◌/◌, ◌++◌, length, arith, refl, ◌∙◌, append_assoc}
use Rattle.std.proofs.lemmas.List.{append-nil}
use Rattle.dbe_gcm.proofs.Hashes.{first_blocks, first_blocks-none, first_blocks-more, blocks_all, block_at-filled}
use Rattle.dbe_gcm.proofs.Hashes.{length-filled}
use Rattle.dbe_gcm.proofs.hash.absorb.Goals as goal

pub loop-j-init : goal.loop-j-init
loop-j-init c = λ h xs table is. rw (first_blocks-none c.args.bytes.now, append-nil xs) is

pub loop-j-preserved : goal.loop-j-preserved
loop-j-preserved c = λ h xs table is.
    let bytes = c.args.bytes.now in
    let j = c.loop-j.j in
    let block = block_at-filled bytes (16 * j) (omega arith) in
    let before = c.loop-j.invariant h xs table is in
    let after = c.absorb_block-sum.ensures h (xs ++ first_blocks bytes j) table before in
    after ∙ rw (first_blocks-more bytes j, block, ← append_assoc, c.block_at.ensures) refl

pub returns-then-bytes-eq0 : goal.returns-then-bytes-eq0
returns-then-bytes-eq0 c = λ h xs table is.
    let bytes = c.args.bytes.now in
    let all = blocks_all bytes c.loop-j.j (omega (arith, length-filled bytes)) in
    rw all at (c.loop-j.invariant h xs table is)

pub returns-else-bytes-eq0 : goal.returns-else-bytes-eq0
returns-else-bytes-eq0 c = λ h xs table is.
    let bytes = c.args.bytes.now in
    let j = c.loop-j.j in
    let done : c.loop-j.j ≡ length c.args.bytes.now / 16 = omega arith in
    let all = blocks_all bytes (j + 1) (omega (arith, length-filled bytes)) in
    let after = c.absorb_block.ensures h (xs ++ first_blocks bytes j) table (c.loop-j.invariant h xs table is) in
    after ∙ rw (← all, first_blocks-more bytes j, ← append_assoc, c.last_block.ensures, done) refl
