use Rattle.std.proofs.Common.{◌≡◌, ◌+◌, drop}
use Rattle.dbe_fields.proofs.Cutting.{end_of}
use Rattle.dbe_fields.proofs.pieces.piece_end.Given as goal

abbrev pub invariant-loop-i : goal.invariant-loop-i
invariant-loop-i l = l.i + end_of l.cut l.left (drop l.i l.text) ≡ end_of l.cut l.fn.piece l.text
