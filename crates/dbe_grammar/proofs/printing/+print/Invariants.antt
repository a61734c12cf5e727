use Rattle.std.proofs.Common.{◌≡◌, ◌++◌, [], drop}
use Rattle.dbe_grammar.specs.Form.{members_of}
use Rattle.dbe_grammar.specs.Printed.{and_printed, more_ands, or_printed, more_ors}
use Rattle.dbe_grammar.proofs.printing.+print.Given as goal

abbrev pub invariant-print_ands-loop-member : goal.invariant-print_ands-loop-member
invariant-print_ands-loop-member l = l.out ++ more_ands (members_of (drop l.member-index l.rest)) [] ≡ l.fn.out ++
    and_printed (members_of l.members) []

abbrev pub invariant-print_ors-loop-member : goal.invariant-print_ors-loop-member
invariant-print_ors-loop-member l = l.out ++ more_ors (members_of (drop l.member-index l.rest)) [] ≡ l.fn.out ++
    or_printed (members_of l.members) []
