use Rattle.std.proofs.Common.{◌≡◌, ◌-◌, drop}
use Rattle.dbe_canon.specs.Reading.{is_increasing}
use Rattle.dbe_canon.proofs.sets.are_texts_increasing.Given as goal

abbrev pub invariant-loop-i : goal.invariant-loop-i
invariant-loop-i l = is_increasing (drop (l.i - 1) l.texts) ≡ is_increasing l.texts
