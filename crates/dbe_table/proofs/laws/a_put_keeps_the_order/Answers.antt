use Rattle.dbe_table.proofs.Order.{table_put}
use Rattle.dbe_table.proofs.laws.a_put_keeps_the_order.Goals as goal

pub returns : goal.returns
returns c = table_put
