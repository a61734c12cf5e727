use Rattle.dbe_frame.proofs.Computed.{pairs_strict, pairs_permuted}
use Rattle.dbe_frame.proofs.laws.context_order.Goals as goal

pub returns-clause-order : goal.returns-clause-order
returns-clause-order c = pairs_strict

pub returns-clause-same : goal.returns-clause-same
returns-clause-same c = pairs_permuted
