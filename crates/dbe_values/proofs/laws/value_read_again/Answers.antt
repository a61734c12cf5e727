use Rattle.dbe_values.proofs.ReadAgain.{value_again}
use Rattle.dbe_values.proofs.laws.value_read_again.Goals as goal

pub returns : goal.returns
returns c = value_again 32
