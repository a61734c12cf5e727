use Rattle.dbe_io.proofs.LineLaws.{IsTooLong-more}
use Rattle.dbe_io.proofs.laws.too_long_stays.Goals as goal

pub returns : goal.returns
returns c = IsTooLong-more
