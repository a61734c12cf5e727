use Rattle.std.proofs.Common.{sym, subst, arith}
use Rattle.dbe_values.specs.Sets.{IsNumberText, IsSetOf}
use Rattle.dbe_values.proofs.read.number_set_in.Goals as goal

pub from_elements-requires : goal.from_elements-requires
from_elements-requires c =
    subst (IsSetOf IsNumberText) (sym c.from_vec.ensures) (record {
      set = record {
        some = grind (arith, c.in_ok-numbers_of.ensures.some, c.if-is_empty.ensures);
        increasing =
            c.in_ok-numbers_of.ensures.rises;
      };
      each = c.in_ok-numbers_of.ensures.lawful;
    })
