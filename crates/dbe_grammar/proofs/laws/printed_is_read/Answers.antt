use Rattle.dbe_grammar.proofs.PrintedForms.{printed_is}
use Rattle.dbe_grammar.proofs.laws.printed_is_read.Goals as goal

pub returns : goal.returns
returns c = printed_is
