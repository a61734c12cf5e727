use Rattle.dbe_num.proofs.Grammar.{grammar_read, grammar_only}
use Rattle.dbe_num.proofs.number_laws.number_grammar.Goals as goal

pub returns-clause-read : goal.returns-clause-read
returns-clause-read c = grammar_read

pub returns-clause-only : goal.returns-clause-only
returns-clause-only c = grammar_only
