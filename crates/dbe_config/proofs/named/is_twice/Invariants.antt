use Rattle.std.proofs.Common.{◌≡◌, ◌||◌, map, drop}
use Rattle.std.specs.List.{list_any}
use Rattle.dbe_config.specs.Rules.{is_twice}
use Rattle.dbe_config.proofs.Seen.{is_seen}
use Rattle.dbe_config.proofs.named.is_twice.Given as goal

abbrev pub invariant-loop-item : goal.invariant-loop-item
invariant-loop-item g l = (list_any (is_seen l.seen) (map g.T.Named.name_of (drop l.item-index l.items)) || is_twice
    (map g.T.Named.name_of (drop l.item-index l.items))) ≡ is_twice (map g.T.Named.name_of l.items)
