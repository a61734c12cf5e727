use Rattle.dbe_num.proofs.Again.{read_again}
use Rattle.dbe_num.proofs.number_laws.number_read_again.Goals as goal

pub returns : goal.returns
returns c = read_again
