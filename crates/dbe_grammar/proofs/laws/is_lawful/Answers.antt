use Rattle.dbe_grammar.proofs.Lawful.{cond_lawful}
use Rattle.dbe_grammar.proofs.laws.is_lawful.Goals as goal

pub returns : goal.returns
returns c = cond_lawful
