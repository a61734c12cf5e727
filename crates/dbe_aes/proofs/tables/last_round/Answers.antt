use Rattle.dbe_aes.specs.Columns.{columns}
use Rattle.dbe_aes.proofs.Rows.{columns-last_round}
use Rattle.dbe_aes.proofs.tables.last_round.Goals as goal

pub returns : goal.returns
unfolding columns
returns c = rw (c.last_column.ensures, c.last_column-2.ensures, c.last_column-3.ensures, c.last_column-4.ensures)
    (columns-last_round c.args.words.now _ _ _ _)
