use Rattle.dbe_table.proofs.Order.{row_at-put_row}
use Rattle.dbe_table.proofs.laws.a_put_row_is_found.Goals as goal

pub returns : goal.returns
returns c = row_at-put_row
