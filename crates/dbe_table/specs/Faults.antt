-- What a call of a table answers of the table (this project's own).
use Rattle.std.specs.Prelude.{Bool, true, false, Result, Ok, Err}
use Rattle.dbe_table.specs.declared.table.TableFault.{TableFault}
use Rattle.dbe_table.specs.declared.table.TableFault.TheVariants.{Failed, Memory}

-- whether it answers that the table failed
abbrev pub is_failed : {T : Type 0} → Result T TableFault → Bool
is_failed (Ok x) = false
is_failed (Err Failed) = true
is_failed (Err Memory) = false
