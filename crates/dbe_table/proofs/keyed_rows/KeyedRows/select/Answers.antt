use Rattle.dbe_table.proofs.Keyed.{have_keys}
use Rattle.dbe_table.proofs.keyed_rows.KeyedRows.select.Goals as goal

pub returns-clause-keys : goal.returns-clause-keys
returns-clause-keys c =
    rw (← c.self.view_is) (have_keys c.self.inside.schema c.args.wanted.now c.self.inside.rows.entries
    c.found_among.result c.self.invariant c.found_among.ensures)
