-- Reading in steps, of which the first fault counts. Out of memory is no fault of what is read.
use Rattle.std.specs.Prelude.{◌≡◌, Option, Some, None, Result, Ok, Err}
use Rattle.dbe_values.specs.declared.fault.ValueFault.{ValueFault}
use Rattle.dbe_values.specs.declared.fault.ValueFault.TheVariants.{Shape, BadNumber, BadBase64, EmptySet}
use Rattle.dbe_values.specs.declared.fault.ValueFault.TheVariants.{DoubledElement, TooDeep, BadName, Memory}

infixl 10 ◌>>=◌
abbrev pub ◌>>=◌ : {A B : Type 0} → Result A ValueFault → (A → Result B ValueFault) → Result B ValueFault
(Ok x) >>= f = f x
(Err e) >>= f = Err e

abbrev pub or_fault : {A : Type 0} → ValueFault → Option A → Result A ValueFault
or_fault e None = Err e
or_fault e (Some x) = Ok x

-- a fault that reading has, or out of memory
abbrev pub Fails : {B : Type 0} → ValueFault → Result B ValueFault → Type 0
Fails Memory read = Unit {0}
Fails Shape read = read ≡ Err Shape
Fails BadNumber read = read ≡ Err BadNumber
Fails BadBase64 read = read ≡ Err BadBase64
Fails EmptySet read = read ≡ Err EmptySet
Fails DoubledElement read = read ≡ Err DoubledElement
Fails TooDeep read = read ≡ Err TooDeep
Fails BadName read = read ≡ Err BadName

-- what a call answered, seen by view, is what reading gives, unless memory ran out
abbrev pub Gives : {A B : Type 0} → (A → B) → Result A ValueFault → Result B ValueFault → Type 0
Gives view (Ok x) read = read ≡ Ok (view x)
Gives view (Err e) read = Fails e read
