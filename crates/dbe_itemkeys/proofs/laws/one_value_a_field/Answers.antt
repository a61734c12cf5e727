use Rattle.dbe_itemkeys.proofs.Sealed.{one_value}
use Rattle.dbe_itemkeys.proofs.laws.one_value_a_field.Goals as goal

pub returns : goal.returns
returns c = one_value
