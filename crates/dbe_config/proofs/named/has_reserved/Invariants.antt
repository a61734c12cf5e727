use Rattle.std.proofs.Common.{◌≡◌, map, drop}
use Rattle.dbe_config.specs.Rules.{has_reserved}
use Rattle.dbe_config.proofs.named.has_reserved.Given as goal

abbrev pub invariant-loop-item : goal.invariant-loop-item
invariant-loop-item g l = has_reserved (map g.T.Named.name_of (drop l.item-index l.items)) ≡ has_reserved
    (map g.T.Named.name_of l.items)
