-- What a call that reads the placeholders of a query answers (this project's own).
use Rattle.std.specs.Prelude.{◌≡◌, ℕ, List, Result, Ok, Err}
use Rattle.dbe_values.specs.declared.fault.ValueFault.{ValueFault}
use Rattle.dbe_values.specs.declared.fault.ValueFault.TheVariants as v
use Rattle.dbe_lines.specs.Queries.{Faulty}
use Rattle.dbe_lines.specs.declared.queries.AskFault.{AskFault}
use Rattle.dbe_lines.specs.declared.queries.AskFault.TheVariants as ask
use Rattle.dbe_lines.specs.declared.request.Request.{Request}
use Rattle.dbe_lines.specs.declared.request.Request.TheVariants as r

-- what was read, or where it has a fault, unless memory ran out
abbrev pub GivesAsked : {A : Type 0} → Result A AskFault → Result A Faulty → Type 0
GivesAsked (Ok a) read = read ≡ Ok a
GivesAsked (Err (ask.At name why)) read = read ≡ Err (name, why)
GivesAsked (Err ask.Memory) read = Unit {0}

abbrev pub IsFaulty : AskFault → Request → Type 0
IsFaulty (ask.At name why) request = request ≡ r.Value name why
IsFaulty ask.Memory request = ⊥

-- a fault of the value under a placeholder; out of memory is told as such
abbrev pub fault_at : List ℕ → ValueFault → AskFault
fault_at name v.Memory = ask.Memory
fault_at name v.Shape = ask.At name v.Shape
fault_at name v.BadNumber = ask.At name v.BadNumber
fault_at name v.BadBase64 = ask.At name v.BadBase64
fault_at name v.EmptySet = ask.At name v.EmptySet
fault_at name v.DoubledElement = ask.At name v.DoubledElement
fault_at name v.TooDeep = ask.At name v.TooDeep
fault_at name v.BadName = ask.At name v.BadName
