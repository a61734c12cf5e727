use Rattle.std.proofs.Common.{◌≡◌, ◌/◌, ◌%◌, ◌^◌, ap, arith, ◌∙◌}
use Rattle.std.proofs.lemmas.Nat.{and_mask}
use Rattle.dbe_aes.specs.Bytes.{sbox}
use Rattle.dbe_aes.proofs.Rows.{last_column_is}
use Rattle.dbe_aes.proofs.tables.last_column.Goals as goal

pub returns : goal.returns
returns c =
    let top : c.args.a / 2 ^ 24 ≡ c.args.a / 2 ^ 24 % 256 = omega arith in
    last_column_is c.args.a c.args.b c.args.c c.args.d c.args.k c.from_be_bytes.result c.sbox.result c.sbox-2.result
    c.sbox-3.result c.sbox-4.result c.from_be_bytes.ensures
    (omega arith) (omega arith) (omega arith) (omega arith)
    (c.sbox.ensures ∙ ap sbox top)
    (c.sbox-2.ensures ∙ ap sbox (and_mask (c.args.b / 2 ^ 16) 8))
    (c.sbox-3.ensures ∙ ap sbox (and_mask (c.args.c / 2 ^ 8) 8))
    (c.sbox-4.ensures ∙ ap sbox (and_mask c.args.d 8))
