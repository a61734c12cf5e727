use Rattle.dbe_itemkeys.proofs.Sealed.{has_shape, has_id, opens}
use Rattle.dbe_itemkeys.proofs.laws.opens_what_was_sealed_in_a_field.Goals as goal

pub returns : goal.returns
returns c = record { shape = has_shape; id = has_id; text = opens }
