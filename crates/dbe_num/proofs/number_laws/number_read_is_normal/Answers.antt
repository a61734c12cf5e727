use Rattle.dbe_num.proofs.Read.{read_is_normal}
use Rattle.dbe_num.proofs.number_laws.number_read_is_normal.Goals as goal

pub returns : goal.returns
returns c = read_is_normal
