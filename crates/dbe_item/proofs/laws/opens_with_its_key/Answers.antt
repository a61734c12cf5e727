use Rattle.dbe_item.proofs.LawsKeys.{opens_key, opens_has_key, opens_lawful}
use Rattle.dbe_item.proofs.laws.opens_with_its_key.Goals as goal

pub returns : goal.returns
returns x = record { key = opens_key; as_row = opens_has_key; valid = opens_lawful }
