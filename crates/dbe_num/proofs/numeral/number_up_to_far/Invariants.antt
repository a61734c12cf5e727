use Rattle.std.proofs.Common.{◌≡◌, ◌^◌, ◌≤◌, min, drop}
use Rattle.dbe_num.specs.Numeral.{whole_number, whole_number_after}
use Rattle.dbe_num.proofs.numeral.number_up_to_far.Given as goal

abbrev pub invariant-loop-byte : goal.invariant-loop-byte
invariant-loop-byte l = record {
  so_far : min (whole_number_after l.number (drop l.byte-index l.digits)) (2 ^ 70) ≡ min (whole_number l.digits)
      (2 ^ 70);
  capped : l.number ≤ 2 ^ 70;
}
