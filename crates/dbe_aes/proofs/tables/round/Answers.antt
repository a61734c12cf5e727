use Rattle.dbe_aes.specs.Columns.{columns}
use Rattle.dbe_aes.proofs.Rows.{columns-round}
use Rattle.dbe_aes.proofs.tables.round.Goals as goal

pub returns : goal.returns
unfolding columns
returns c = rw (c.round_column.ensures, c.round_column-2.ensures, c.round_column-3.ensures, c.round_column-4.ensures)
    (columns-round c.args.words.now c.args.n _ _ _ _)
