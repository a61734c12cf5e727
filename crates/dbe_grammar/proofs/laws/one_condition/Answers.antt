use Rattle.dbe_grammar.proofs.Whole.{cond_unique}
use Rattle.dbe_grammar.proofs.laws.one_condition.Goals as goal

pub returns : goal.returns
returns c = cond_unique
