use Rattle.std.proofs.Common.{◌≡◌, ◌-◌, drop, map}
use Rattle.dbe_canon.specs.Reading.{is_increasing}
use Rattle.dbe_canon.proofs.reading.are_names_increasing.Given as goal

abbrev pub invariant-loop-i : goal.invariant-loop-i
invariant-loop-i l = is_increasing (drop (l.i - 1) (map (λ e. e.0) l.entries)) ≡ is_increasing
    (map (λ e. e.0) l.entries)
