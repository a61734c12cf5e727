use Rattle.std.proofs.Common.{get_or, sym}
use Rattle.dbe_aes.specs.Columns.{columns}
use Rattle.dbe_aes.proofs.Rows.{word_of_bytes, sixteen}
use Rattle.dbe_aes.proofs.tables.columns_of.Goals as goal

pub returns : goal.returns
unfolding columns
returns c =
    let s = c.args.block.now in
    let fits = c.fits-block in
    rw (
      word_of_bytes _ (get_or s 0 0) (get_or s 1 0) (get_or s 2 0) (get_or s 3 0) c.from_be_bytes.ensures (fits 0)
          (fits 1) (fits 2) (fits 3),
      word_of_bytes _ (get_or s 4 0) (get_or s 5 0) (get_or s 6 0) (get_or s 7 0) c.from_be_bytes-2.ensures (fits 4)
          (fits 5) (fits 6) (fits 7),
      word_of_bytes _ (get_or s 8 0) (get_or s 9 0) (get_or s 10 0) (get_or s 11 0) c.from_be_bytes-3.ensures (fits 8)
          (fits 9) (fits 10) (fits 11),
      word_of_bytes _ (get_or s 12 0) (get_or s 13 0) (get_or s 14 0) (get_or s 15 0) c.from_be_bytes-4.ensures
          (fits 12) (fits 13) (fits 14) (fits 15),
    ) (sym (sixteen s c.told-block))
