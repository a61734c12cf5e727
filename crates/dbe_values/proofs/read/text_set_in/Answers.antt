use Rattle.std.proofs.Common.{sym, ◌∙◌, subst, arith}
use Rattle.std.specs.Str.{IsUtf8}
use Rattle.dbe_values.specs.Sets.{IsSetOf}
use Rattle.dbe_values.proofs.read.text_set_in.Goals as goal

pub returns-clause-lawful : goal.returns-clause-lawful
returns-clause-lawful c =
    subst (IsSetOf IsUtf8) (sym (c.from_elements.ensures ∙ c.from_vec.ensures)) (record {
      set = record {
        some = grind (arith, c.in_ok-texts_of.ensures.some, c.if-is_empty.ensures);
        increasing =
            c.in_ok-texts_of.ensures.rises;
      };
      each = c.in_ok-texts_of.ensures.lawful;
    })
