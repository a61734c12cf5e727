use Rattle.std.proofs.Common.{◌≡◌, length}
use Rattle.dbe_num.specs.Numeral.{without_front_zeros}
use Rattle.dbe_num.proofs.numeral.skip_zeros.Given as goal

abbrev pub invariant-loop-others : goal.invariant-loop-others
invariant-loop-others l = without_front_zeros l.rest ≡ without_front_zeros l.digits

abbrev pub decreases-loop-others : goal.decreases-loop-others
decreases-loop-others l = length l.rest
