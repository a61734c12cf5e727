use Rattle.dbe_item.proofs.Stood.{stands_with_its_key}
use Rattle.dbe_item.proofs.key_law.stands_with_its_key.Goals as goal

pub returns : goal.returns
returns x = stands_with_its_key
