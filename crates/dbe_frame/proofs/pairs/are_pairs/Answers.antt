use Rattle.std.proofs.Common.{sym, ◌∙◌}
use Rattle.dbe_frame.proofs.Door.{are_taken, taken_are}
use Rattle.dbe_frame.proofs.pairs.are_pairs.Goals as goal

pub returns-then-pairs-le-MOST_COUNTED : goal.returns-then-pairs-le-MOST_COUNTED
returns-then-pairs-le-MOST_COUNTED c = (
  λ taken. are_taken c.args.pairs.now c.if-pairs-le-MOST_COUNTED.true (sym c.takes_pairs.ensures ∙ taken),
  λ h. c.takes_pairs.ensures ∙ taken_are c.args.pairs.now h,
)
