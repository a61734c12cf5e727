use Rattle.dbe_canon.proofs.Orders.{set_checked}
use Rattle.dbe_canon.proofs.sets.binary_set_in.Goals as goal

pub from_elements-requires : goal.from_elements-requires
from_elements-requires c = set_checked c.in_ok-binaries.binaries _ _ _ c.is_empty-else-not-is_empty.ensures
    c.if-is_empty.false c.as_slice.ensures c.are_binaries_increasing.ensures c.if-not-are_binaries_increasing.false
