use Rattle.std.proofs.Common.{◌≡◌, drop}
use Rattle.dbe_grammar.specs.Form.{members_of}
use Rattle.dbe_cond.specs.Reading.{have_long_list}
use Rattle.dbe_cond.proofs.parsed.+lists.Given as goal

abbrev pub invariant-have_long_list-loop-tree : goal.invariant-have_long_list-loop-tree
invariant-have_long_list-loop-tree l = have_long_list (members_of (drop l.tree-index l.trees)) ≡ have_long_list
    (members_of l.trees)
