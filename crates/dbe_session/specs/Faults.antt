-- When a step answers that the table or the dice failed (this project's own).
use Rattle.std.specs.Prelude.{Bool, true, false, Result, Ok, Err}
use Rattle.dbe_table.specs.declared.table.TableFault.{TableFault}
use Rattle.dbe_table.specs.declared.table.TableFault.TheVariants as given
use Rattle.dbe_session.specs.declared.session.StepFault.{StepFault}
use Rattle.dbe_session.specs.declared.session.StepFault.TheVariants.{Table, Dice, Memory}

-- what a step answers for a fault of the table
abbrev pub of_table : TableFault → StepFault
of_table given.Failed = Table
of_table given.Memory = Memory

-- whether a step answers that the table failed
abbrev pub is_table_fault : {T : Type 0} → Result T StepFault → Bool
is_table_fault (Ok text) = false
is_table_fault (Err Table) = true
is_table_fault (Err Memory) = false
is_table_fault (Err Dice) = false

-- whether a step answers that the dice failed
abbrev pub is_dice_fault : {T : Type 0} → Result T StepFault → Bool
is_dice_fault (Ok text) = false
is_dice_fault (Err Dice) = true
is_dice_fault (Err Table) = false
is_dice_fault (Err Memory) = false
