use Rattle.std.proofs.Common.{refl, arith}
use Rattle.serde_json.specs.Data.{string}
use Rattle.dbe_values.specs.Writing.{strings}
use Rattle.dbe_values.proofs.Members.{written_step, written_end}
use Rattle.dbe_values.proofs.write.string_values.Goals as goal

pub loop-text-preserved : goal.loop-text-preserved
loop-text-preserved c = written_step strings (λ y. string y) refl (λ _ _. refl) _ _ c.in_ok-string_value.field-0
    c.args.texts.now c.loop-text.text-index c.text-item.result _ c.loop-text-test.true c.text-item.is
    c.in_ok-string_value.ensures c.in_ok-push.ensures.items c.loop-text.invariant

pub returns : goal.returns
returns c = written_end strings (λ y. string y) refl (λ _ _. refl) c.loop-text.out.items c.args.texts.now
    c.loop-text.text-index _ (omega arith) c.loop-text.invariant
