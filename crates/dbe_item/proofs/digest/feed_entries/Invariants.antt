use Rattle.std.proofs.Common.{take}
use Rattle.dbe_frame.specs.Record.{entries_text}
use Rattle.dbe_item.specs.Digest.{Feeds}
use Rattle.dbe_item.proofs.digest.feed_entries.Given as goal

abbrev pub invariant-loop-i : goal.invariant-loop-i
invariant-loop-i l = Feeds l.initial.hasher l.hasher (entries_text l.table l.row (take l.i l.names)
    (take l.i l.legend))
