use Rattle.std.proofs.Common.{◌≡◌, ◌+◌, ◌≤◌, length, decimal}
use Rattle.dbe_num.proofs.number.digit_count.Given as goal

abbrev pub invariant-loop-rest : goal.invariant-loop-rest
invariant-loop-rest l = record {
  counted : l.count + length (decimal l.rest) ≡ length (decimal l.digits) + 1;
  low : l.rest ≤ l.digits;
}

abbrev pub decreases-loop-rest : goal.decreases-loop-rest
decreases-loop-rest l = l.rest
