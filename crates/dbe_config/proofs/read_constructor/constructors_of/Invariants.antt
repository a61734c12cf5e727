use Rattle.std.proofs.Common.{◌≡◌, map, take}
use Rattle.dbe_config.specs.Shape.{constructor_of}
use Rattle.dbe_config.proofs.read_constructor.constructors_of.Given as goal

abbrev pub invariant-loop-list : goal.invariant-loop-list
invariant-loop-list l = l.constructors.items ≡ map (constructor_of l.parts) (take l.list-index l.lists)
