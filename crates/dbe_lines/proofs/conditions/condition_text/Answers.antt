use Rattle.dbe_lines.proofs.Floats.{no_float_condition}
use Rattle.dbe_lines.proofs.conditions.condition_text.Goals as goal

pub line_of-requires : goal.line_of-requires
line_of-requires c = rw (c.in_ok-condition_value.ensures) (no_float_condition c.args.printed.now.text
    c.args.printed.now.names c.args.printed.now.values)
