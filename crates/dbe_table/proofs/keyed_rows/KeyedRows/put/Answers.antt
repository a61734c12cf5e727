use Rattle.std.proofs.Common.{ap, ◌∙◌}
use Rattle.std.specs.Map.{values_of}
use Rattle.dbe_table.proofs.Keyed.{values-insert, keyed-insert, of_schema}
use Rattle.dbe_table.proofs.keyed_rows.KeyedRows.put.Goals as goal

pub invariant_of-self-2 : goal.invariant_of-self-2
invariant_of-self-2 c =
    rw c.in_ok-insert.ensures.entries (keyed-insert c.one_number_a_value.ensures c.a_read_key_is_lawful.ensures
    c.self.inside.schema _ c.in_ok-key.key c.args.row c.self.invariant c.in_ok-key.ensures c.normal_key.ensures)

pub returns-clause-ok : goal.returns-clause-ok
returns-clause-ok c =
    rw (← c.self.view_is) (ap (of_schema c.self.inside.schema) (ap values_of c.in_ok-insert.ensures.entries ∙
    values-insert c.self.inside.schema _ c.in_ok-key.key c.args.row c.self.invariant c.in_ok-key.ensures))
