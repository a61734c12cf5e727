use Rattle.std.proofs.Common.{◌≡◌, ◌||◌, drop}
use Rattle.std.specs.List.{list_any}
use Rattle.dbe_config.specs.Rules.{has_ring_twice}
use Rattle.dbe_config.proofs.Rings.{is_seen}
use Rattle.dbe_config.proofs.recipient_rules.has_ring_twice.Given as goal

abbrev pub invariant-loop-ring : goal.invariant-loop-ring
invariant-loop-ring l =
    (list_any (is_seen l.seen) (drop l.ring-index l.rings) || has_ring_twice (drop l.ring-index l.rings)) ≡
    has_ring_twice l.rings
