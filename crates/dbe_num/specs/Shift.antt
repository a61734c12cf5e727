-- How far an exponent moves a number, as the code keeps it. Past 2^70 each number but zero is out of range.
use Rattle.std.specs.Prelude.{min, ◌^◌}
use Rattle.dbe_num.specs.Numeral.{Power, raised_by, lowered_by}
use Rattle.dbe_num.specs.declared.numeral.Shift.{Shift}

abbrev pub shift_of : Power → Shift
shift_of p = record { raised = min (raised_by p) (2 ^ 70); lowered = min (lowered_by p) (2 ^ 70) }
