use Rattle.dbe_cond.proofs.Known.{value_text}
use Rattle.dbe_cond.proofs.unknown.unknown_value.Goals as goal

pub returns-then-is_none-clause-text : goal.returns-then-is_none-clause-text
returns-then-is_none-clause-text c = value_text c.args.text.now c.args.tokens.now c.loop-token.token-index _
    c.in-Some.span c.bytes_in-placeholder.result.now c.requires c.loop-token-test.true c.in-Some.ensures
    c.bytes_in-placeholder.ensures
