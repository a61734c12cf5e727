use Rattle.dbe_aes.proofs.Counters.{mode_twice}
use Rattle.dbe_aes.proofs.laws.ctr_twice.Goals as goal

pub returns : goal.returns
returns c = mode_twice
