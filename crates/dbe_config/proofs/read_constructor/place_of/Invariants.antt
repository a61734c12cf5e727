use Rattle.std.proofs.Common.{◌≡◌, ◌+◌, drop}
use Rattle.dbe_config.specs.Shape.{place_of}
use Rattle.dbe_config.proofs.read_constructor.place_of.Given as goal

abbrev pub invariant-loop-i : goal.invariant-loop-i
invariant-loop-i l = place_of l.name l.parts ≡ l.i + place_of l.name (drop l.i l.parts)
