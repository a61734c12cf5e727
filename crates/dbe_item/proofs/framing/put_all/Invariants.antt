use Rattle.std.proofs.Common.{◌≡◌, drop}
use Rattle.dbe_item.specs.Sealed.{put_all}
use Rattle.dbe_item.proofs.framing.put_all.Given as goal

abbrev pub invariant-loop-i : goal.invariant-loop-i
invariant-loop-i l = put_all (drop l.i l.others) l.row ≡ put_all l.others l.initial.row
