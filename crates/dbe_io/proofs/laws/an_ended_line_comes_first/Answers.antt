use Rattle.dbe_io.proofs.LineLaws.{lines_of-ended}
use Rattle.dbe_io.proofs.laws.an_ended_line_comes_first.Goals as goal

pub returns : goal.returns
returns c = lines_of-ended
