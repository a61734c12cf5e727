use Rattle.dbe_canon.proofs.PathOrder.{paths_in_order}
use Rattle.dbe_canon.proofs.laws.path_order.Goals as goal

pub returns : goal.returns
returns c = paths_in_order
