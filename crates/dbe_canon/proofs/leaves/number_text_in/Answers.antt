use Rattle.dbe_canon.proofs.ReadLeaves.{number_text_some}
use Rattle.dbe_canon.proofs.leaves.number_text_in.Goals as goal

pub returns : goal.returns
returns c = number_text_some c.args.bytes.now c.in_ok-text.field-0 c.in_ok-number.number c.in_ok-number.ensures
    c.in_ok-text.ensures
