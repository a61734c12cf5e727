use Rattle.dbe_item.proofs.LawsOpened.{stands_once}
use Rattle.dbe_item.proofs.laws.stands_for_one.Goals as goal

pub returns : goal.returns
returns x = stands_once
