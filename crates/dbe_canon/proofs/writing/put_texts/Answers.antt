use Rattle.std.proofs.Common.{◌++◌, ◌∙◌, ap, refl, arith}
use Rattle.dbe_canon.specs.Canon.{long_string, long_strings}
use Rattle.dbe_canon.proofs.Appending.{appended_more, appended_all}
use Rattle.dbe_canon.proofs.writing.put_texts.Goals as goal

pub loop-text-preserved : goal.loop-text-preserved
loop-text-preserved c =
    appended_more long_strings long_string (λ _ _. refl) _ _ c.args.texts.now c.loop-text.text-index
    c.text-item.result _ c.loop-text-test.true c.text-item.is (c.in_ok-put_string.ensures ∙
    ap (λ y. c.loop-text.out.items ++ long_string y) c.as_bytes.ensures) c.loop-text.invariant

pub returns : goal.returns
returns c = appended_all long_strings refl c.loop-text.out.items c.args.texts.now c.loop-text.text-index _
    (omega arith) c.loop-text.invariant
