use Rattle.dbe_io.proofs.LineLaws.{lines_of-front}
use Rattle.dbe_io.proofs.laws.ended_lines_stay_in_front.Goals as goal

pub returns : goal.returns
returns c = lines_of-front
