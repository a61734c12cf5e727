use Rattle.std.proofs.Common.{refl, ap, length, arith}
use Rattle.dbe_canon.specs.Canon.{long_string, long_strings}
use Rattle.dbe_canon.proofs.Lengths.{length_more, length_all, string_length}
use Rattle.dbe_canon.proofs.length.texts_len.Goals as goal

pub loop-text-preserved : goal.loop-text-preserved
loop-text-preserved c = record {
  counted = length_more long_strings long_string (λ _ _. refl) c.loop-text.total _ c.args.texts.now
      c.loop-text.text-index c.text-item.result _ c.loop-text-test.true c.text-item.is (omega (
        arith,
        c.saturating_add-total.ensures,
        c.saturating_add.ensures,
        string_length c.text-item.result,
        ap length c.as_bytes.ensures,
      )) c.loop-text.invariant.counted;
  fits = omega arith;
}

pub returns : goal.returns
returns c = length_all long_strings refl c.loop-text.total c.args.texts.now c.loop-text.text-index _ (omega arith)
    c.loop-text.invariant.fits c.loop-text.invariant.counted
