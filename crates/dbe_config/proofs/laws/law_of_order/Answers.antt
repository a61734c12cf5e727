use Rattle.dbe_config.specs.Order.{breaches}
use Rattle.dbe_config.proofs.Order.{is_first, only_first, all_kept, none_of_kept}
use Rattle.dbe_config.proofs.laws.law_of_order.Goals as goal

pub returns-clause-first : goal.returns-clause-first
returns-clause-first c = λ s fault h. is_first (breaches s) fault h

pub returns-clause-only : goal.returns-clause-only
returns-clause-only c = λ s fault h. only_first (breaches s) fault h

pub returns-clause-none : goal.returns-clause-none
returns-clause-none c = λ s h. all_kept (breaches s) h

pub returns-clause-kept : goal.returns-clause-kept
returns-clause-kept c = λ s h. none_of_kept (breaches s) h
