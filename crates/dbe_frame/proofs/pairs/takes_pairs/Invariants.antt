use Rattle.std.proofs.Common.{◌≡◌, None, drop}
use Rattle.std.specs.Prelude.{option_map}
use Rattle.dbe_frame.specs.Reading.{takes_pairs}
use Rattle.dbe_frame.proofs.pairs.takes_pairs.Given as goal

abbrev pub invariant-loop-i : goal.invariant-loop-i
invariant-loop-i l = takes_pairs (option_map (λ k. k.now) l.before) (drop l.i l.pairs) ≡ takes_pairs None l.pairs
