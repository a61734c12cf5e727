use Rattle.std.proofs.Common.{◌∙◌, string_bytes}
use Rattle.dbe_fields.proofs.Encoding.{encoded_more}
use Rattle.dbe_fields.proofs.characters.Characters.push_onto.Goals as goal

pub loop-c-preserved : goal.loop-c-preserved
loop-c-preserved c =
    c.in_ok-push.ensures.bytes ∙ encoded_more (string_bytes c.args.text.now) (string_bytes c.loop-c.text)
    c.as_slice-c-items.result.now c.loop-c.c-index c.c-item.result c.loop-c-test.true c.c-item.is c.loop-c.invariant
