use Rattle.std.proofs.Common.{◌≡◌, take}
use Rattle.dbe_grammar.specs.Form.{members_of}
use Rattle.dbe_cond.specs.Condition.{members_of as conditions_of}
use Rattle.dbe_cond.specs.Resolved.{all_resolved}
use Rattle.dbe_cond.proofs.resolve.+resolve.Given as goal

abbrev pub invariant-resolve_all-loop-tree : goal.invariant-resolve_all-loop-tree
invariant-resolve_all-loop-tree l = conditions_of l.conds ≡ all_resolved l.text l.names l.values
    (members_of (take l.tree-index l.trees))
