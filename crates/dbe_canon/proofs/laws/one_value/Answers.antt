use Rattle.dbe_canon.proofs.ReadAgain.{one_value_each}
use Rattle.dbe_canon.proofs.laws.one_value.Goals as goal

pub returns : goal.returns
returns c = one_value_each 32
