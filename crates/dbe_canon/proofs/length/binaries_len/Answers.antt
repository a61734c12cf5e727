use Rattle.std.proofs.Common.{refl, ap, length, arith}
use Rattle.dbe_canon.specs.Canon.{long_string, long_strings}
use Rattle.dbe_canon.proofs.Lengths.{length_more, length_all, string_length}
use Rattle.dbe_canon.proofs.length.binaries_len.Goals as goal

pub loop-bytes-preserved : goal.loop-bytes-preserved
loop-bytes-preserved c = record {
  counted = length_more long_strings long_string (λ _ _. refl) c.loop-bytes.total _ c.args.binaries.now
      c.loop-bytes.bytes-index c.bytes-item.result _ c.loop-bytes-test.true c.bytes-item.is (omega (
        arith,
        c.saturating_add-total.ensures,
        c.saturating_add.ensures,
        string_length c.bytes-item.result,
        ap length c.as_slice.ensures,
      )) c.loop-bytes.invariant.counted;
  fits = omega arith;
}

pub returns : goal.returns
returns c = length_all long_strings refl c.loop-bytes.total c.args.binaries.now c.loop-bytes.bytes-index _
    (omega arith) c.loop-bytes.invariant.fits c.loop-bytes.invariant.counted
