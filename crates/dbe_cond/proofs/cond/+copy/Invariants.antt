use Rattle.std.proofs.Common.{◌≡◌, take}
use Rattle.dbe_cond.proofs.cond.+copy.Given as goal

abbrev pub invariant-copy_conds-loop-cond : goal.invariant-copy_conds-loop-cond
invariant-copy_conds-loop-cond l = l.copies ≡ take l.cond-index l.conds
