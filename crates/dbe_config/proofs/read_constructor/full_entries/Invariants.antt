use Rattle.std.proofs.Common.{◌≡◌, map, take}
use Rattle.dbe_config.specs.Shape.{full_entry}
use Rattle.dbe_config.proofs.read_constructor.full_entries.Given as goal

abbrev pub invariant-loop-part : goal.invariant-loop-part
invariant-loop-part l = l.entries.items ≡ map full_entry (take l.part-index l.parts)
