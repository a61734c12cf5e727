use Rattle.std.proofs.Common.{◌≡◌, take}
use Rattle.dbe_grammar.specs.Form.{members_of as forms_of}
use Rattle.dbe_cond.specs.Condition.{members_of}
use Rattle.dbe_cond.specs.Printed.{all_shapes}
use Rattle.dbe_cond.proofs.shape.+shape.Given as goal

abbrev pub invariant-shapes-loop-cond : goal.invariant-shapes-loop-cond
invariant-shapes-loop-cond l = forms_of l.trees ≡ all_shapes (members_of (take l.cond-index l.conds))
