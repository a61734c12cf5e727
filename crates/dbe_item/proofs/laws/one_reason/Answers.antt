use Rattle.dbe_item.proofs.LawsReasons.{reason_once}
use Rattle.dbe_item.proofs.laws.one_reason.Goals as goal

pub returns : goal.returns
returns x = reason_once
