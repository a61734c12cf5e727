use Rattle.std.proofs.Common.{◌++◌, ◌∙◌, ap, refl, arith}
use Rattle.dbe_canon.specs.Canon.{long_string, long_strings}
use Rattle.dbe_canon.proofs.Appending.{appended_more, appended_all}
use Rattle.dbe_canon.proofs.writing.put_binaries.Goals as goal

pub loop-bytes-preserved : goal.loop-bytes-preserved
loop-bytes-preserved c =
    appended_more long_strings long_string (λ _ _. refl) _ _ c.args.binaries.now c.loop-bytes.bytes-index
    c.bytes-item.result _ c.loop-bytes-test.true c.bytes-item.is (c.in_ok-put_string.ensures ∙
    ap (λ y. c.loop-bytes.out.items ++ long_string y) c.as_slice.ensures) c.loop-bytes.invariant

pub returns : goal.returns
returns c = appended_all long_strings refl c.loop-bytes.out.items c.args.binaries.now c.loop-bytes.bytes-index _
    (omega arith) c.loop-bytes.invariant
