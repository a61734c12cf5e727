use Rattle.dbe_item.proofs.SealsStand.{seals_all}
use Rattle.dbe_item.proofs.seal_law.seals_to_stand.Goals as goal

pub returns : goal.returns
returns x = seals_all
