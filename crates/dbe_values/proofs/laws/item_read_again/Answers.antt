use Rattle.dbe_values.proofs.ReadAgain.{item_again}
use Rattle.dbe_values.proofs.laws.item_read_again.Goals as goal

pub returns : goal.returns
returns c = item_again
