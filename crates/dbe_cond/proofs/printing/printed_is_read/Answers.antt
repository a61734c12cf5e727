use Rattle.dbe_cond.proofs.PrintedReads.{printed_reads}
use Rattle.dbe_cond.proofs.printing.printed_is_read.Goals as goal

pub returns : goal.returns
returns c = printed_reads
