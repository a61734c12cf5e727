use Rattle.std.proofs.Common.{refl, arith}
use Rattle.dbe_values.specs.Writing.{base64_texts, base64_text}
use Rattle.dbe_values.proofs.Members.{written_step, written_end}
use Rattle.dbe_values.proofs.write.base64_values.Goals as goal

pub loop-bytes-preserved : goal.loop-bytes-preserved
loop-bytes-preserved c = written_step base64_texts (λ y. base64_text y) refl (λ _ _. refl) _ _
    c.in_ok-base64_value.field-0 c.args.binaries.now c.loop-bytes.bytes-index c.bytes-item.result _
    c.loop-bytes-test.true c.bytes-item.is c.in_ok-base64_value.ensures c.in_ok-push.ensures.items
    c.loop-bytes.invariant

pub returns : goal.returns
returns c = written_end base64_texts (λ y. base64_text y) refl (λ _ _. refl) c.loop-bytes.out.items
    c.args.binaries.now c.loop-bytes.bytes-index _ (omega arith) c.loop-bytes.invariant
