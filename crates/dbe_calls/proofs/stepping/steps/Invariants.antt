use Rattle.std.proofs.Common.{◌≡◌, Some}
use Rattle.dbe_calls.proofs.stepping.steps.Given as goal

abbrev pub invariant-loop-line : goal.invariant-loop-line
invariant-loop-line g l =
    let T = g.T.Table in
    record {
      next : (goal.iterator-loop-line g).can_next l.line-iterator;
      finite : (goal.iterator-loop-line g).is_finite l.line-iterator;
      begun : T.begun l.table ≡ Some l.session.config.schema;
    }
