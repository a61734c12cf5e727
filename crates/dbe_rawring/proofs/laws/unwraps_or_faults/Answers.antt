use Rattle.dbe_rawring.proofs.Rings.{no_fault}
use Rattle.dbe_rawring.proofs.laws.unwraps_or_faults.Goals as goal

pub returns : goal.returns
returns c = no_fault
