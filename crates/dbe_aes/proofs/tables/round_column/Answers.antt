use Rattle.std.proofs.Common.{◌≡◌, ◌/◌, ◌%◌, ◌^◌, arith}
use Rattle.std.proofs.lemmas.Nat.{and_mask}
use Rattle.dbe_aes.proofs.Rows.{round_column_is}
use Rattle.dbe_aes.proofs.tables.round_column.Goals as goal

pub returns : goal.returns
returns c =
    let top : c.args.a / 2 ^ 24 ≡ c.args.a / 2 ^ 24 % 256 = omega arith in
    round_column_is c.args.a c.args.b c.args.c c.args.d c.args.k _ _ _ _ top (and_mask (c.args.b / 2 ^ 16) 8)
    (and_mask (c.args.c / 2 ^ 8) 8) (and_mask c.args.d 8)
