use Rattle.std.proofs.Common.{rules}
use Rattle.dbe_values.proofs.key.read_key.Goals as goal

pub returns-after-sort-clause-gives : goal.returns-after-sort-clause-gives
returns-after-sort-clause-gives c = search rules

pub returns-after-sort-clause-lawful : goal.returns-after-sort-clause-lawful
returns-after-sort-clause-lawful c = c.a_read_key_is_lawful.ensures c.args.schema.now c.args.item.now _
    (returns-after-sort-clause-gives c)
