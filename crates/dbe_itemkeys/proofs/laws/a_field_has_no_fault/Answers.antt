use Rattle.dbe_itemkeys.proofs.Sealed.{no_fault}
use Rattle.dbe_itemkeys.proofs.laws.a_field_has_no_fault.Goals as goal

pub returns : goal.returns
returns c = no_fault
