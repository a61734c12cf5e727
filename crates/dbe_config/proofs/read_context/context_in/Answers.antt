use Rattle.dbe_config.proofs.Lists.{none_in_order}
use Rattle.dbe_config.proofs.read_context.context_in.Goals as goal

pub returns-in_default-clause-order : goal.returns-in_default-clause-order
returns-in_default-clause-order c = none_in_order c.new.result.items c.new.ensures.items
