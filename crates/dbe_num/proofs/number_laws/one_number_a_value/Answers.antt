use Rattle.dbe_num.proofs.Again.{one_form}
use Rattle.dbe_num.proofs.number_laws.one_number_a_value.Goals as goal

pub returns : goal.returns
returns c = one_form
