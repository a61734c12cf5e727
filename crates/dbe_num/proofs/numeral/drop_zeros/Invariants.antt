use Rattle.std.proofs.Common.{◌≡◌, length}
use Rattle.dbe_num.specs.Numeral.{without_end_zeros}
use Rattle.dbe_num.proofs.numeral.drop_zeros.Given as goal

abbrev pub invariant-loop-others : goal.invariant-loop-others
invariant-loop-others l = without_end_zeros l.rest ≡ without_end_zeros l.digits

abbrev pub decreases-loop-others : goal.decreases-loop-others
decreases-loop-others l = length l.rest
