use Rattle.std.proofs.Common.{◌≡◌, ◌++◌}
use Rattle.std.specs.BTreeMap.{values}
use Rattle.dbe_table.specs.Rows.{wanted_rows}
use Rattle.dbe_table.proofs.keyed_rows.found_among.Given as goal

abbrev pub invariant-loop-row : goal.invariant-loop-row
invariant-loop-row l = l.found.items ++ wanted_rows l.wanted l.row-iterator ≡ wanted_rows l.wanted (values l.rows)
