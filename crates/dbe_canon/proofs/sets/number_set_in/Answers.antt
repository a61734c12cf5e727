use Rattle.dbe_canon.proofs.NumberTexts.{number_texts}
use Rattle.dbe_canon.proofs.Orders.{set_checked}
use Rattle.dbe_canon.proofs.sets.number_set_in.Goals as goal

pub from_elements-requires : goal.from_elements-requires
from_elements-requires c = record {
  set = set_checked c.in_ok-texts.texts _ _ _ c.is_empty-else-not-is_empty.ensures c.if-is_empty.false
      c.as_slice.ensures c.are_texts_increasing.ensures c.if-not-are_texts_increasing.false;
  each = number_texts _ _ c.in_ok-texts.texts _ c.in_ok-texts.ensures;
}
