use Rattle.dbe_item.proofs.LawsFields.{opens_freely}
use Rattle.dbe_item.proofs.laws.opens_without_a_reason.Goals as goal

pub returns : goal.returns
returns x = opens_freely
