use Rattle.dbe_item.proofs.Feeding.{feeds_none, feeds_more}
use Rattle.dbe_item.proofs.digest.feed_entries.Goals as goal

pub loop-i-init : goal.loop-i-init
loop-i-init c = feeds_none c.args.table.now c.args.row.now c.args.hasher.now

pub loop-i-preserved : goal.loop-i-preserved
loop-i-preserved c =
    feeds_more c.args.table.now c.args.row.now c.args.hasher.now c.loop-i.hasher c.feed_entry.new.hasher c.loop-i.i
    c.args.names.now c.args.legend.now c.index-names-i.result c.loop-i-test.true c.requires c.index-names-i.is
    c.loop-i.invariant c.in_ok-feed_entry.ensures
