use Rattle.std.proofs.Common.{◌≡◌, take}
use Rattle.dbe_frame.specs.Signed.{signed_among}
use Rattle.dbe_frame.proofs.signed.signed_among.Given as goal

abbrev pub invariant-loop-i : goal.invariant-loop-i
invariant-loop-i l = l.names.items ≡ signed_among l.config (take l.i l.row)
