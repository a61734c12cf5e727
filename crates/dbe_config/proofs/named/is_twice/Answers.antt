use Rattle.std.proofs.Common.{◌≡◌, true, false, ◌∙◌, sym, ap, is_some, ◌||◌, map, string_bytes, rules}
use Rattle.dbe_config.specs.Rules.{is_twice}
use Rattle.dbe_config.proofs.Seen.{is_seen, seen_more, twice_step, twice_found, any_none}
use Rattle.dbe_config.proofs.named.is_twice.Goals as goal

pub loop-item-init : goal.loop-item-init
loop-item-init g c =
    ap (λ b. b || is_twice (map g.T.Named.name_of c.args.items.now)) (any_none (is_seen c.new-seen.result)
    (λ n. search rules) (map g.T.Named.name_of c.args.items.now))

pub returns-then-is_some : goal.returns-then-is_some
returns-then-is_some g c =
    let same : string_bytes c.into_string.result ≡ g.T.Named.name_of c.item-item.result = c.into_string.ensures ∙
    c.in_ok-copy.ensures ∙ c.name.ensures in
    let seen : is_seen c.loop-item.seen (g.T.Named.name_of c.item-item.result) ≡ true =
    ap (is_seen c.loop-item.seen) (sym same) ∙ ap is_some (sym c.in_ok-earlier.ensures.old) ∙
    sym c.is_some.ensures ∙ c.if-is_some.true in
    twice_found g.T.Named.name_of c.args.items.now c.loop-item.item-index c.item-item.result
    (is_seen c.loop-item.seen) _ c.loop-item-test.true c.item-item.is seen c.loop-item.invariant

pub loop-item-preserved : goal.loop-item-preserved
loop-item-preserved g c =
    let same : string_bytes c.into_string.result ≡ g.T.Named.name_of c.item-item.result = c.into_string.ensures ∙
    c.in_ok-copy.ensures ∙ c.name.ensures in
    let fresh : is_seen c.loop-item.seen (g.T.Named.name_of c.item-item.result) ≡ false =
    ap (is_seen c.loop-item.seen) (sym same) ∙ ap is_some (sym c.in_ok-earlier.ensures.old) ∙
    sym c.is_some.ensures ∙ c.if-is_some.false in
    twice_step g.T.Named.name_of c.args.items.now c.loop-item.item-index c.item-item.result (is_seen c.loop-item.seen)
    (is_seen c.insert.new.self) _ c.loop-item-test.true c.item-item.is fresh
    (seen_more c.into_string.result _ c.loop-item.seen c.insert.new.self c.in_ok-earlier.ensures.updates same)
    c.loop-item.invariant
