use Rattle.std.proofs.Common.{◌≡◌, ◌++◌, drop}
use Rattle.dbe_table.proofs.keyed_rows.KeyedRows.of.Given as goal

abbrev pub invariant-loop-row : goal.invariant-loop-row
invariant-loop-row l = record {
  schema : l.keyed.schema ≡ l.schema;
  rows : l.keyed.rows ++ drop l.row-index l.rows ≡ l.rows;
}
