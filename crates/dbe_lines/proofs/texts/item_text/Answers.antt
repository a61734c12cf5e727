use Rattle.std.proofs.Common.{codes}
use Rattle.dbe_lines.proofs.Floats.{no_float_item}
use Rattle.dbe_lines.proofs.texts.item_text.Goals as goal

pub line_of-requires : goal.line_of-requires
line_of-requires c = rw (c.in_ok-item_value.ensures) (no_float_item (codes "item") c.args.item.now)
