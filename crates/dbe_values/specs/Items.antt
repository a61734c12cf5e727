-- The item that a JSON value spells, or the first fault of the walk through its attributes, this project's own:
-- in order of names, each name before its value.
use Rattle.std.specs.Prelude.{◌≡◌, ℕ, List, Result, Ok, Err, if◌then◌else◌}
use Rattle.std.specs.Prelude.{map as map_list}
use Rattle.serde_json.specs.Data.{Data, null, boolean, number, string, array, object, Members, no_members, member}
use Rattle.dbe_values.specs.Val.{Val, Entries, no_entries, entry}
use Rattle.dbe_values.specs.View.{entries_of, entry_view}
use Rattle.dbe_values.specs.Attributes.{is_name}
use Rattle.dbe_values.specs.Reading.{value_in}
use Rattle.dbe_values.specs.declared.value.AttrValue.{AttrValue}
use Rattle.dbe_values.specs.declared.fault.ValueFault.{ValueFault}
use Rattle.dbe_values.specs.declared.fault.ValueFault.TheVariants.{Shape, BadNumber, BadBase64, EmptySet}
use Rattle.dbe_values.specs.declared.fault.ValueFault.TheVariants.{DoubledElement, TooDeep, BadName, Memory}
use Rattle.dbe_values.specs.declared.fault.ItemFault.{ItemFault}
use Rattle.dbe_values.specs.declared.fault.ItemFault.TheVariants.{NotObject, At}

abbrev pub attribute_in : List ℕ → Data → Result Val ValueFault
attribute_in name d = if is_name name then value_in 32 d else Err BadName

-- an attribute in front of others, or the first fault
abbrev pub then_attribute : List ℕ → Result Val ValueFault → Result Entries ItemFault → Result Entries ItemFault
then_attribute name (Err e) others = Err (At name e)
then_attribute name (Ok x) (Err f) = Err f
then_attribute name (Ok x) (Ok es) = Ok (entry name x es)

abbrev pub attributes_in : Members → Result Entries ItemFault
attributes_in no_members = Ok no_entries
attributes_in (member name d ms) = then_attribute name (attribute_in name d) (attributes_in ms)

abbrev pub item_in : Data → Result Entries ItemFault
item_in null = Err NotObject
item_in (boolean b) = Err NotObject
item_in (number n) = Err NotObject
item_in (string s) = Err NotObject
item_in (array ds) = Err NotObject
item_in (object ms) = attributes_in ms

-- a fault at a name, or out of memory
abbrev pub FailsAt : List ℕ → ValueFault → Result Entries ItemFault → Type 0
FailsAt name Memory read = Unit {0}
FailsAt name Shape read = read ≡ Err (At name Shape)
FailsAt name BadNumber read = read ≡ Err (At name BadNumber)
FailsAt name BadBase64 read = read ≡ Err (At name BadBase64)
FailsAt name EmptySet read = read ≡ Err (At name EmptySet)
FailsAt name DoubledElement read = read ≡ Err (At name DoubledElement)
FailsAt name TooDeep read = read ≡ Err (At name TooDeep)
FailsAt name BadName read = read ≡ Err (At name BadName)

-- what a call answered is what reading gives, unless memory ran out
abbrev pub GivesItem : Result (List (List ℕ × AttrValue)) ItemFault → Result Entries ItemFault → Type 0
GivesItem (Ok item) read = read ≡ Ok (entries_of (map_list entry_view item))
GivesItem (Err NotObject) read = read ≡ Err NotObject
GivesItem (Err (At name why)) read = FailsAt name why read

-- a fault at this name, or out of memory
abbrev pub IsAt : ItemFault → List ℕ → ValueFault → Type 0
IsAt NotObject name why = ⊥
IsAt (At there Memory) name why = Unit {0}
IsAt (At there Shape) name why = At there Shape ≡ At name why
IsAt (At there BadNumber) name why = At there BadNumber ≡ At name why
IsAt (At there BadBase64) name why = At there BadBase64 ≡ At name why
IsAt (At there EmptySet) name why = At there EmptySet ≡ At name why
IsAt (At there DoubledElement) name why = At there DoubledElement ≡ At name why
IsAt (At there TooDeep) name why = At there TooDeep ≡ At name why
IsAt (At there BadName) name why = At there BadName ≡ At name why
