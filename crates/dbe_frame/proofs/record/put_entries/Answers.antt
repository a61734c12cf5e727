use Rattle.dbe_frame.proofs.Entries.{entries_none, entries_more}
use Rattle.dbe_frame.proofs.record.put_entries.Goals as goal

pub loop-i-init : goal.loop-i-init
loop-i-init c = entries_none c.args.table.now c.args.row.now c.args.out.now.items

pub loop-i-preserved : goal.loop-i-preserved
loop-i-preserved c =
    entries_more c.args.table.now c.args.row.now c.loop-i.i c.args.names.now c.args.legend.now _ c.args.out.now.items
    c.loop-i.out.items c.put_entry.new.out.items c.loop-i-test.true c.requires c.index-names-i.is
    c.loop-i.invariant c.in_ok-put_entry.ensures
