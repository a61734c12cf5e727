use Rattle.std.proofs.Common.{◌≡◌, map, take}
use Rattle.dbe_config.specs.Shape.{placed}
use Rattle.dbe_config.proofs.read_constructor.constructor_of.Given as goal

abbrev pub invariant-loop-entry : goal.invariant-loop-entry
invariant-loop-entry l = l.placed.items ≡ map (placed l.parts) (take l.entry-index l.entries)
