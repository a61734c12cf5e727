use Rattle.std.proofs.Common.{rules, ◌≡◌, ◌∙◌, ◌||◌, sym, ap, false}
use Rattle.dbe_config.specs.Rules.{has_ring_twice}
use Rattle.dbe_config.proofs.Rings.{is_seen, none_seen, contains_same, seen_more, ring_step, put_in}
use Rattle.dbe_config.proofs.recipient_rules.has_ring_twice.Goals as goal

pub loop-ring-init : goal.loop-ring-init
loop-ring-init c = ap (λ b. b || has_ring_twice c.args.rings.now) (none_seen (is_seen c.new-seen.result)
    (λ s. search rules) c.args.rings.now)

pub loop-ring-preserved : goal.loop-ring-preserved
loop-ring-preserved c =
    let fresh : is_seen c.loop-ring.seen c.ring-item.result ≡ false =
    sym (contains_same c.loop-ring.seen c.ring_name.result c.ring-item.result c.ring_name.ensures) ∙
    put_in _ _ c.if-not-branch.false c.in_ok-insert.ensures.added in
    ring_step c.args.rings.now c.loop-ring.ring-index c.ring-item.result (is_seen c.loop-ring.seen)
    (is_seen c.insert.new.self) _ c.loop-ring-test.true c.ring-item.is fresh
    (seen_more c.loop-ring.seen c.insert.new.self _ c.ring-item.result c.in_ok-insert.ensures.updates
    c.ring_name.ensures) c.loop-ring.invariant
