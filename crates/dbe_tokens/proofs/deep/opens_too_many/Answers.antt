use Rattle.dbe_tokens.proofs.Opens.{open_more, below_next, opens}
use Rattle.std.proofs.Common.{refl}
use Rattle.dbe_tokens.proofs.deep.opens_too_many.Goals as goal

pub returns-then-open-gt64 : goal.returns-then-open-gt64
returns-then-open-gt64 c =
    let now = open_more c.args.tokens.now c.loop-token.token-index c.loop-token.open c.open_step-open.result _
    c.loop-token-test.true c.loop-token.invariant.so_far c.open_step-open.ensures in
    ((λ _. opens _ c.loop-token.token-index _ now c.if-open-gt64.true), (λ _. refl))

pub loop-token-preserved : goal.loop-token-preserved
loop-token-preserved c =
    let now = open_more c.args.tokens.now c.loop-token.token-index c.loop-token.open c.open_step-open.result _
    c.loop-token-test.true c.loop-token.invariant.so_far c.open_step-open.ensures in
    record {
      so_far = now;
      below = below_next _ c.loop-token.token-index _ now c.if-open-gt64.false c.loop-token.invariant.below;
    }
