use Rattle.dbe_frame.proofs.Names.{names_strict, names_permuted}
use Rattle.dbe_frame.proofs.laws.canonical_order.Goals as goal

pub returns-clause-order : goal.returns-clause-order
returns-clause-order c = names_strict

pub returns-clause-same : goal.returns-clause-same
returns-clause-same c = names_permuted
