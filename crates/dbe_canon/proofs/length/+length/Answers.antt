use Rattle.std.proofs.Common.{ap, length, arith}
use Rattle.dbe_values.specs.View.{view}
use Rattle.dbe_canon.proofs.Appending.{typed, named, values_spelled, entries_spelled, values_cons, entries_cons}
use Rattle.dbe_canon.proofs.Appending.{values_none, entries_none}
use Rattle.dbe_canon.proofs.Lengths.{length_more, length_all, typed_length, named_length}
use Rattle.dbe_canon.proofs.Spelled.{counted_Ss, counted_Ns, counted_Bs, counted_L, counted_M, length_counted}
use Rattle.dbe_canon.proofs.length.+length.Goals as goal

pub canon_len-returns-in-Ss : goal.canon_len-returns-in-Ss
canon_len-returns-in-Ss t c = length_counted c.args.value.now _ _ _ _ (counted_Ss c.args.value.now c.in-Ss.set _
    c.in-Ss.is c.elements.ensures.elements) c.texts_len.ensures c.saturating_add.ensures

pub canon_len-returns-in-Ns : goal.canon_len-returns-in-Ns
canon_len-returns-in-Ns t c = length_counted c.args.value.now _ _ _ _ (counted_Ns c.args.value.now c.in-Ns.set _
    c.in-Ns.is c.elements-in-Ns.ensures.elements) c.texts_len-in-Ns.ensures c.saturating_add-in-Ns.ensures

pub canon_len-returns-in-Bs : goal.canon_len-returns-in-Bs
canon_len-returns-in-Bs t c = length_counted c.args.value.now _ _ _ _ (counted_Bs c.args.value.now c.in-Bs.set _
    c.in-Bs.is c.elements-in-Bs.ensures.elements) c.binaries_len.ensures c.saturating_add-in-Bs.ensures

pub canon_len-returns-in-L : goal.canon_len-returns-in-L
canon_len-returns-in-L t c = length_counted c.args.value.now _ _ _ _ (counted_L c.args.value.now c.in-L.items _
    c.in-L.is c.as_slice-in-L.ensures) c.values_len.ensures c.saturating_add-in-L.ensures

pub canon_len-returns-in-M : goal.canon_len-returns-in-M
canon_len-returns-in-M t c = length_counted c.args.value.now _ _ _ _ (counted_M c.args.value.now c.in-M.entries _
    c.in-M.is c.as_slice-in-M.ensures) c.entries_len.ensures c.saturating_add-in-M.ensures

pub values_len-loop-value-preserved : goal.values_len-loop-value-preserved
values_len-loop-value-preserved t c = record {
  counted = length_more values_spelled (λ x. typed (view x)) values_cons c.loop-value.total _ c.args.values.now
      c.loop-value.value-index c.value-item.result _ c.loop-value-test.true c.value-item.is (omega (
        arith,
        c.saturating_add-total.ensures,
        c.saturating_add.ensures,
        c.canon_len.ensures,
        typed_length (view c.value-item.result),
      )) c.loop-value.invariant.counted;
  fits = omega arith;
}

pub values_len-returns : goal.values_len-returns
values_len-returns t c = length_all values_spelled values_none c.loop-value.total c.args.values.now
    c.loop-value.value-index _ (omega arith) c.loop-value.invariant.fits c.loop-value.invariant.counted

pub entries_len-loop-entry-preserved : goal.entries_len-loop-entry-preserved
entries_len-loop-entry-preserved t c = record {
  counted = length_more entries_spelled (λ e. named e.0 (view e.1)) entries_cons c.loop-entry.total _
      c.args.entries.now c.loop-entry.entry-index c.entry-item.result _ c.loop-entry-test.true c.entry-item.is
      (omega (
        arith,
        c.saturating_add-total.ensures,
        c.saturating_add-in-loop-entry.ensures,
        c.saturating_add.ensures,
        c.canon_len.ensures,
        ap length c.as_bytes.ensures,
        named_length c.entry-item.result.0 (view c.entry-item.result.1),
      )) c.loop-entry.invariant.counted;
  fits = omega arith;
}

pub entries_len-returns : goal.entries_len-returns
entries_len-returns t c = length_all entries_spelled entries_none c.loop-entry.total c.args.entries.now
    c.loop-entry.entry-index _ (omega arith) c.loop-entry.invariant.fits c.loop-entry.invariant.counted
