use Rattle.std.proofs.Common.{◌≡◌, map, drop}
use Rattle.dbe_config.specs.Rules.{is_among}
use Rattle.dbe_config.proofs.named.is_among.Given as goal

abbrev pub invariant-loop-item : goal.invariant-loop-item
invariant-loop-item g l = is_among l.name (map g.T.Named.name_of (drop l.item-index l.items)) ≡ is_among l.name
    (map g.T.Named.name_of l.items)
