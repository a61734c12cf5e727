use Rattle.dbe_io.proofs.Told.{Given-within}
use Rattle.dbe_io.proofs.laws.what_is_given_is_within_the_limits.Goals as goal

pub returns : goal.returns
returns c = Given-within
