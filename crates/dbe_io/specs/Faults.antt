-- What a call that writes or reads answers of the object that was handed in (this project's own).
use Rattle.std.specs.Prelude.{Bool, true, false, Result, Ok, Err}
use Rattle.dbe_io.specs.declared.sink.WriteFault.{WriteFault}
use Rattle.dbe_io.specs.declared.sink.WriteFault.TheVariants as write
use Rattle.dbe_io.specs.declared.lines.LineFault.{LineFault}
use Rattle.dbe_io.specs.declared.lines.LineFault.TheVariants as line

-- whether it answers that a write failed
abbrev pub is_failed : {T : Type 0} → Result T WriteFault → Bool
is_failed (Ok x) = false
is_failed (Err write.Failed) = true
is_failed (Err write.TookNothing) = false

-- whether it answers that a write took nothing
abbrev pub is_idle : {T : Type 0} → Result T WriteFault → Bool
is_idle (Ok x) = false
is_idle (Err write.Failed) = false
is_idle (Err write.TookNothing) = true

-- whether it answers that a read failed
abbrev pub is_read : {T : Type 0} → Result T LineFault → Bool
is_read (Ok x) = false
is_read (Err line.Memory) = false
is_read (Err line.Read) = true
is_read (Err line.LineTooLong) = false
is_read (Err line.TooMuch) = false
