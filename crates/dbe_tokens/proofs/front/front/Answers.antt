use Rattle.std.proofs.Common.{sym}
use Rattle.dbe_tokens.proofs.Fronts.{hash_front, colon_front, sign_front}
use Rattle.dbe_tokens.proofs.front.front.Goals as goal

pub returns-in_ok-span-clause-some : goal.returns-in_ok-span-clause-some
returns-in_ok-span-clause-some c = hash_front _ _ _ _ _ _ c.in_ok-first.ensures.cases.0 c.if-first-eq35.true
    c.in_ok-span.ensures.some

pub returns-in_ok-span-2-clause-some : goal.returns-in_ok-span-2-clause-some
returns-in_ok-span-2-clause-some c = colon_front _ _ _ _ _ _ c.in_ok-first.ensures.cases.0 c.if-first-eq58.true
    c.in_ok-span-2.ensures.some

pub returns-in_ok-token-clause-some : goal.returns-in_ok-token-clause-some
returns-in_ok-token-clause-some c = sign_front _ _ _ _ _ _ c.in_ok-first.ensures.cases.0
    (sym c.if-begins_word.ensures) c.if-first-eq35.false c.if-first-eq58.false c.in_ok-token.ensures.some
