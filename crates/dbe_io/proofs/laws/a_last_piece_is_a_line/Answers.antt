use Rattle.dbe_io.proofs.LineLaws.{lines_of-last}
use Rattle.dbe_io.proofs.laws.a_last_piece_is_a_line.Goals as goal

pub returns : goal.returns
returns c = lines_of-last
