use Rattle.std.proofs.Common.{◌≡◌, ◌++◌, [], drop}
use Rattle.dbe_grammar.specs.Grammar.{comma_text}
use Rattle.dbe_grammar.specs.Printed.{list_printed}
use Rattle.dbe_grammar.proofs.printing.print_list.Given as goal

abbrev pub invariant-loop-operand : goal.invariant-loop-operand
invariant-loop-operand l = l.out ++ comma_text (drop l.operand-index l.rest) [] ≡ l.fn.out ++ list_printed l.list []
