use Rattle.std.proofs.Common.{◌∙◌, ap, ◌+◌, drop}
use Rattle.dbe_table.specs.InMemory.{RowsByKey}
use Rattle.dbe_table.proofs.Order.{put_last}
use Rattle.dbe_table.proofs.Rising.{drop_at}
use Rattle.dbe_table.proofs.keyed_rows.KeyedRows.of.Goals as goal

pub loop-row-preserved : goal.loop-row-preserved
loop-row-preserved c =
    let left = drop_at c.args.rows.now c.loop-row.row-index c.row-item.result c.loop-row-test.true c.row-item.is in
    let put = ap (λ (k : RowsByKey). k.rows) c.in_ok-put.ensures.ok in
    let same = rw (c.loop-row.invariant.schema, c.in_ok-copy-2.ensures) at put in
    record {
      schema = ap (λ (k : RowsByKey). k.schema) c.in_ok-put.ensures.ok ∙ c.loop-row.invariant.schema;
      rows = put_last c.args.schema.now _ _ (drop (c.loop-row.row-index + 1) c.args.rows.now) c.row-item.result _ _
          left c.loop-row.invariant.rows c.requires same;
    }
