use Rattle.std.proofs.Common.{◌≡◌, ℕ, ◌-◌, ◌<◌, ◌≤◌, [], length, get_or, Less, Greater}
use Rattle.std.specs.Map.{keys_of}
use Rattle.dbe_values.proofs.Placing.{order}
use Rattle.dbe_cond.proofs.placeholders.place_of.Given as goal

abbrev pub invariant-loop-low : goal.invariant-loop-low
invariant-loop-low g l = record {
  range : l.low ≤ l.high;
  within : l.high ≤ length l.entries;
  below : (k : ℕ) → k < l.low → order l.placeholder (get_or (keys_of l.entries) k []) ≡ Greater;
  above : (k : ℕ) → l.high ≤ k → k < length (keys_of l.entries) →
      order l.placeholder (get_or (keys_of l.entries) k []) ≡ Less;
}

abbrev pub decreases-loop-low : goal.decreases-loop-low
decreases-loop-low g l = l.high - l.low
