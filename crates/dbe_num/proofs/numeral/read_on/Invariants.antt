use Rattle.std.proofs.Common.{◌≡◌, ◌+◌, ◌*◌, ◌^◌, ◌≤◌, length, drop, true}
use Rattle.std.specs.Str.{all_ascii_digits}
use Rattle.dbe_num.specs.Numeral.{whole_number_after}
use Rattle.dbe_num.proofs.numeral.read_on.Given as goal

abbrev pub invariant-loop-byte : goal.invariant-loop-byte
invariant-loop-byte l = record {
  so_far : whole_number_after l.number (drop l.byte-index l.digits) ≡ whole_number_after l.start l.digits;
  digits : all_ascii_digits (drop l.byte-index l.digits) ≡ true;
  fits : (l.number + 1) * 10 ^ length (drop l.byte-index l.digits) ≤ 10 ^ 38;
}
