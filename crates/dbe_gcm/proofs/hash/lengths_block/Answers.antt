use Rattle.std.proofs.Common.{◌≡◌, ◌*◌, ◌%◌, ◌^◌, length, arith}
use Rattle.std.proofs.lemmas.Nat.{or_shifted}
use Rattle.dbe_gcm.specs.Hash.{lengths_block}
use Rattle.dbe_gcm.proofs.hash.lengths_block.Goals as goal

pub returns : goal.returns
unfolding lengths_block
returns c =
    let a = length c.args.aad.now in
    let t = length c.args.text.now in
    let high : a * 8 % 2 ^ 64 * 2 ^ 64 % 2 ^ 128 ≡ 8 * a % 2 ^ 64 * 2 ^ 64 = omega arith in
    let low : t * 8 % 2 ^ 64 ≡ 8 * t % 2 ^ 64 = omega arith in
    rw (high, low) (or_shifted (8 * a % 2 ^ 64) 64 (8 * t % 2 ^ 64) (omega arith))
