use Rattle.std.proofs.Common.{◌≡◌, ◌-◌, None}
use Rattle.std.specs.Prelude.{option_map}
use Rattle.dbe_frame.specs.Reading.{pairs_at}
use Rattle.dbe_frame.proofs.Loops.{behind}
use Rattle.dbe_frame.proofs.reading.pairs_at.Given as goal

abbrev pub invariant-loop : goal.invariant-loop
invariant-loop l = behind l.pairs.items (pairs_at (option_map (λ k. k.now) l.before) (l.count - l.counter) l.rest) ≡
    pairs_at None l.count l.bytes
