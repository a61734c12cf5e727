use Rattle.dbe_values.proofs.SameValues.{vals_apart, entries_apart}
use Rattle.dbe_values.proofs.Views.{view-M}
use Rattle.dbe_values.proofs.value.+equal.Goals as goal

pub equal-returns-in-M-M : goal.equal-returns-in-M-M
equal-returns-in-M-M t c = rw (
  c.in-M-M.is-0,
  c.in-M-M.is-1,
  view-M c.in-M-M.xs,
  view-M c.in-M-M.ys,
) (rw (c.as_slice-in-M-M.ensures, c.as_slice-in-M-M-2.ensures) at c.equal_entries.ensures)

pub equal_entries-returns-then-xs-ys : goal.equal_entries-returns-then-xs-ys
equal_entries-returns-then-xs-ys t c = entries_apart c.args.xs.now c.args.ys.now c.if-xs-ys.true

pub equal_items-returns-then-xs-ys : goal.equal_items-returns-then-xs-ys
equal_items-returns-then-xs-ys t c = vals_apart c.args.xs.now c.args.ys.now c.if-xs-ys.true
