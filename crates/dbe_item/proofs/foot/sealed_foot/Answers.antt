use Rattle.dbe_item.proofs.SealedRow.{tags_are}
use Rattle.dbe_item.proofs.foot.sealed_foot.Goals as goal

pub returns : goal.returns
returns c = tags_are c.args.table.now c.args.row.now c.args.names.now _ _ _ _ _ _ _ _ c.deref.ensures.value
    c.legend.ensures c.deref-2.ensures.value c.in_ok-digest.ensures c.in_ok-tags.ensures
