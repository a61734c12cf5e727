use Rattle.dbe_cond.proofs.Resolving.{reads_lawful}
use Rattle.dbe_cond.proofs.reading.read_is_lawful.Goals as goal

pub returns : goal.returns
returns c = reads_lawful
