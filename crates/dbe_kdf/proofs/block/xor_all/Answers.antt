use Rattle.std.proofs.Common.{arith}
use Rattle.dbe_kdf.proofs.Maps.{is_map}
use Rattle.dbe_kdf.proofs.block.xor_all.Goals as goal

pub returns : goal.returns
returns c = is_map _ c.args.bytes.now c.loop-byte.bytes c.loop-byte.auto.bytes (λ k lt. c.loop-byte.invariant.done k
    (omega arith))
