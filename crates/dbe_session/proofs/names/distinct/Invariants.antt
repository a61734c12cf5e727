use Rattle.std.proofs.Common.{◌≡◌, ◌||◌, ℕ, List, bytes_eq, drop}
use Rattle.std.specs.List.{IsDistinct}
use Rattle.dbe_config.specs.Rules.{is_among}
use Rattle.dbe_session.proofs.names.distinct.Given as goal

abbrev pub invariant-loop-name : goal.invariant-loop-name
invariant-loop-name l = record {
  same : (n : List ℕ) → (is_among n l.found.items || is_among n (drop l.name-index l.names)) ≡ is_among n l.names;
  once : IsDistinct bytes_eq l.found.items;
}
