use Rattle.std.proofs.Common.{◌++◌, ◌∙◌, ap, length, arith, length-append}
use Rattle.dbe_values.specs.View.{view}
use Rattle.dbe_canon.specs.Canon.{count_bytes, long_string, canon_of}
use Rattle.dbe_canon.proofs.Appending.{appended_more, appended_all, typed, named, values_spelled, entries_spelled}
use Rattle.dbe_canon.proofs.Appending.{values_cons, entries_cons, values_none, entries_none, length_filled}
use Rattle.dbe_canon.proofs.Appending.{named_written, count_bytes_length}
use Rattle.dbe_canon.proofs.Spelled.{counted_L, counted_M, put_counted_ok}
use Rattle.dbe_canon.proofs.writing.+write.Goals as goal

pub put_value-returns-in-L : goal.put_value-returns-in-L
put_value-returns-in-L t c = put_counted_ok c.put_values.result c.args.value.now _ _ c.args.out.now.items
    c.put_values.new.out.items (counted_L c.args.value.now c.in-L.values c.as_slice-in-L.result.now c.in-L.is
    c.as_slice-in-L.ensures) c.put_values.ensures

pub put_value-returns-in-M : goal.put_value-returns-in-M
put_value-returns-in-M t c = put_counted_ok c.put_entries.result c.args.value.now _ _ c.args.out.now.items
    c.put_entries.new.out.items (counted_M c.args.value.now c.in-M.entries c.as_slice-in-M.result.now c.in-M.is
    c.as_slice-in-M.ensures) c.put_entries.ensures

pub put_typed-set_length-requires : goal.put_typed-set_length-requires
put_typed-set_length-requires t c =
    omega (
      arith,
      ap length c.in_ok-put_value.ensures,
      ap length c.in_ok-put_count.ensures,
      length-append c.put_count.new.out.items (canon_of (view c.args.value.now)),
      length-append c.put_bytes.new.out.items (count_bytes 0),
      count_bytes_length 0,
      c.len-start.ensures,
    )

pub put_typed-returns : goal.put_typed-returns
put_typed-returns t c =
    length_filled c.args.out.now.items _ c.put_bytes.new.out.items c.put_count.new.out.items _
    c.put_value.new.out.items _ c.len-start.result 0 (c.in_ok-put_bytes.ensures ∙
    ap (λ y. c.args.out.now.items ++ y) c.type_id.ensures) (omega (arith, c.len-start.ensures))
    c.in_ok-put_count.ensures c.in_ok-put_value.ensures c.set_length.ensures

pub put_values-loop-value-preserved : goal.put_values-loop-value-preserved
put_values-loop-value-preserved t c =
    appended_more values_spelled (λ x. typed (view x)) values_cons _ _ c.args.values.now c.loop-value.value-index
    c.value-item.result _ c.loop-value-test.true c.value-item.is c.in_ok-put_typed.ensures c.loop-value.invariant

pub put_values-returns : goal.put_values-returns
put_values-returns t c = appended_all values_spelled values_none c.loop-value.out.items c.args.values.now
    c.loop-value.value-index _ (omega arith) c.loop-value.invariant

pub put_entries-loop-entry-preserved : goal.put_entries-loop-entry-preserved
put_entries-loop-entry-preserved t c =
    appended_more entries_spelled (λ e. named e.0 (view e.1)) entries_cons _ _ c.args.entries.now
    c.loop-entry.entry-index c.entry-item.result _ c.loop-entry-test.true c.entry-item.is
    (named_written c.loop-entry.out.items c.put_string.new.out.items _ c.entry-item.result.0
    (view c.entry-item.result.1) (c.in_ok-put_string.ensures ∙ ap (λ y. c.loop-entry.out.items ++ long_string y)
    c.as_bytes.ensures) c.in_ok-put_typed.ensures) c.loop-entry.invariant

pub put_entries-returns : goal.put_entries-returns
put_entries-returns t c = appended_all entries_spelled entries_none c.loop-entry.out.items c.args.entries.now
    c.loop-entry.entry-index _ (omega arith) c.loop-entry.invariant
