use Rattle.dbe_item.proofs.FieldSteps.{OpenedSoFar}
use Rattle.dbe_item.proofs.fields.open_fields.Given as goal

abbrev pub invariant-loop-i : goal.invariant-loop-i
invariant-loop-i l = OpenedSoFar l.config l.row l.keys.root l.names l.values.items l.i
