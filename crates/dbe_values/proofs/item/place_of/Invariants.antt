use Rattle.std.proofs.Common.{◌≡◌, ℕ, ◌-◌, ◌<◌, ◌≤◌, [], length, get_or, Less, Greater}
use Rattle.dbe_values.specs.Lawful.{names_of}
use Rattle.dbe_values.proofs.Placing.{order}
use Rattle.dbe_values.proofs.item.place_of.Given as goal

abbrev pub invariant-loop-low : goal.invariant-loop-low
invariant-loop-low l = record {
  range : l.low ≤ l.high;
  within : l.high ≤ length l.attributes;
  below : (k : ℕ) → k < l.low → order l.name (get_or (names_of l.attributes) k []) ≡ Greater;
  above : (k : ℕ) → l.high ≤ k → k < length (names_of l.attributes) →
      order l.name (get_or (names_of l.attributes) k []) ≡ Less;
}

abbrev pub decreases-loop-low : goal.decreases-loop-low
decreases-loop-low l = l.high - l.low
