use Rattle.dbe_frame.proofs.Split.{header_split, before_commitment, prefix_apart}
use Rattle.dbe_frame.proofs.laws.commitment_last.Goals as goal

pub returns-clause-split : goal.returns-clause-split
returns-clause-split c = header_split

pub returns-clause-before : goal.returns-clause-before
returns-clause-before c = before_commitment

pub returns-clause-apart : goal.returns-clause-apart
returns-clause-apart c = prefix_apart
