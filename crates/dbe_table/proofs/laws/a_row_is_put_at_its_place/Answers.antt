use Rattle.dbe_table.proofs.Order.{put_row-parts}
use Rattle.dbe_table.proofs.laws.a_row_is_put_at_its_place.Goals as goal

pub returns : goal.returns
returns c = put_row-parts
