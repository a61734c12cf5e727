use Rattle.std.specs.Prelude.{IsTrue, false}
use Rattle.std.proofs.Common.{sym}
use Rattle.dbe_item.proofs.Frames.{absent_is_unsigned}
use Rattle.dbe_item.proofs.frame.is_signed_only.Goals as goal

pub returns-in-None : goal.returns-in-None
returns-in-None c = (
  λ (t : IsTrue false). absurd cc,
  λ e. absurd (absent_is_unsigned c.args.name.now c.args.names.now c.args.legend.now c.requires.legend
      (sym c.in-None.ensures.some) e),
)
