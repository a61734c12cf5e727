use Rattle.std.proofs.Common.{get_or}
use Rattle.dbe_aes.specs.Columns.{columns}
use Rattle.dbe_aes.proofs.Rows.{bytes-xor, columns-first}
use Rattle.dbe_aes.proofs.tables.first_round.Goals as goal

pub returns : goal.returns
unfolding columns
returns c =
    let s = c.args.s in
    let w = c.args.words.now in
    rw (
      bytes-xor (get_or s 0 0) (get_or w 0 0),
      bytes-xor (get_or s 1 0) (get_or w 1 0),
      bytes-xor (get_or s 2 0) (get_or w 2 0),
      bytes-xor (get_or s 3 0) (get_or w 3 0),
    ) (columns-first w _ _ _ _)
