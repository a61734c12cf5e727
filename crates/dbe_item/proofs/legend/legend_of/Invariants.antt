use Rattle.std.proofs.Common.{◌≡◌, map, take}
use Rattle.dbe_item.specs.Names.{legend_byte}
use Rattle.dbe_item.proofs.legend.legend_of.Given as goal

abbrev pub invariant-loop-name : goal.invariant-loop-name
invariant-loop-name l = l.legend.items ≡ map (legend_byte l.config) (take l.name-index l.names)
