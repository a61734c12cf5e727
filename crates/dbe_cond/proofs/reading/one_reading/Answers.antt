use Rattle.dbe_cond.proofs.Readings.{reads_unique}
use Rattle.dbe_cond.proofs.reading.one_reading.Goals as goal

pub returns : goal.returns
returns c = reads_unique
