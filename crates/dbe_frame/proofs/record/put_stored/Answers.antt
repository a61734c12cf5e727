use Rattle.std.proofs.Common.{[], ◌++◌, ◌∙◌, sym, ap, length, arith, length-append, append_assoc}
use Rattle.std.proofs.lemmas.List.{append-nil}
use Rattle.dbe_values.specs.View.{view}
use Rattle.dbe_canon.specs.Canon.{count_bytes, type_id, canon_of}
use Rattle.dbe_canon.proofs.Appending.{length_filled, count_bytes_length}
use Rattle.dbe_frame.proofs.record.put_stored.Goals as goal

pub set_length-requires : goal.set_length-requires
set_length-requires c =
    omega (
      arith,
      ap length c.in_ok-put_canon.ensures,
      ap length c.in_ok-put_bytes.ensures,
      ap length c.in_ok-put_count.ensures,
      length-append c.put_bytes.new.out.items (canon_of (view c.args.value.now)),
      length-append c.put_count.new.out.items c.type_id.result,
      length-append c.args.out.now.items (count_bytes 0),
      count_bytes_length 0,
      c.len-start.ensures,
    )

pub returns : goal.returns
returns c =
    length_filled c.args.out.now.items [] c.args.out.now.items c.put_count.new.out.items _ c.put_canon.new.out.items _
    c.len-start.result 0 (sym (append-nil c.args.out.now.items)) (omega (arith, c.len-start.ensures))
    c.in_ok-put_count.ensures
    (c.in_ok-put_canon.ensures ∙ ap (λ y. y ++ canon_of (view c.args.value.now)) (c.in_ok-put_bytes.ensures ∙
    ap (λ y. c.put_count.new.out.items ++ y) c.type_id.ensures) ∙
    append_assoc c.put_count.new.out.items (type_id (view c.args.value.now)) (canon_of (view c.args.value.now)))
    c.set_length.ensures
