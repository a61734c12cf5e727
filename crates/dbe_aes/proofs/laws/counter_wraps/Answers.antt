use Rattle.std.proofs.Common.{refl}
use Rattle.dbe_aes.specs.Counters.{inc32}
use Rattle.dbe_aes.proofs.laws.counter_wraps.Goals as goal

pub returns : goal.returns
unfolding inc32
returns c = λ block last. rw last refl
