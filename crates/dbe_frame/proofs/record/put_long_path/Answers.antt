use Rattle.std.proofs.Common.{[], ◌∙◌, sym, ap, length, arith, length-append}
use Rattle.std.proofs.lemmas.List.{append-nil}
use Rattle.dbe_canon.specs.Canon.{count_bytes}
use Rattle.dbe_canon.proofs.Appending.{length_filled, count_bytes_length}
use Rattle.dbe_frame.proofs.record.put_long_path.Goals as goal

pub set_length-requires : goal.set_length-requires
set_length-requires c =
    omega (
      arith,
      ap length c.in_ok-put_path.ensures ∙ length-append c.put_count.new.out.items _,
      ap length c.in_ok-put_count.ensures ∙ length-append c.args.out.now.items (count_bytes 0),
      count_bytes_length 0,
      c.len-start.ensures,
    )

pub returns : goal.returns
returns c =
    length_filled c.args.out.now.items [] c.args.out.now.items c.put_count.new.out.items _ c.put_path.new.out.items _
    c.len-start.result 0 (sym (append-nil c.args.out.now.items)) (omega (arith, c.len-start.ensures))
    c.in_ok-put_count.ensures (rw (c.as_bytes.ensures, c.as_bytes-2.ensures) at c.in_ok-put_path.ensures)
    c.set_length.ensures
