use Rattle.std.proofs.Common.{◌≡◌, ◌++◌, take, drop}
use Rattle.dbe_num.specs.Reading.{digits_at, after_digits}
use Rattle.dbe_num.proofs.numeral.split_digits.Given as goal

abbrev pub invariant-loop-i : goal.invariant-loop-i
invariant-loop-i l = record {
  front : digits_at l.text ≡ take l.i l.text ++ digits_at (drop l.i l.text);
  rest : after_digits l.text ≡ after_digits (drop l.i l.text);
}
