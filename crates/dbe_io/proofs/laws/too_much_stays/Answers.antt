use Rattle.dbe_io.proofs.LineLaws.{IsTooMuch-more}
use Rattle.dbe_io.proofs.laws.too_much_stays.Goals as goal

pub returns : goal.returns
returns c = IsTooMuch-more
