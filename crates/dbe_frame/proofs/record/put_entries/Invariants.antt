use Rattle.std.proofs.Common.{◌≡◌, ◌++◌, take}
use Rattle.dbe_frame.specs.Record.{entries_text}
use Rattle.dbe_frame.proofs.record.put_entries.Given as goal

abbrev pub invariant-loop-i : goal.invariant-loop-i
invariant-loop-i l = l.out.items ≡ l.initial.out.items ++ entries_text l.table l.row (take l.i l.names)
    (take l.i l.legend)
