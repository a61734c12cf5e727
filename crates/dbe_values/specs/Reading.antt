-- The value that a JSON value spells (DynamoDB JSON: an object with one member that names the type), or the
-- first fault of the walk through it, which is this project's own.
use Rattle.std.specs.Prelude.{ℕ, zero, suc, Bool, true, false, List, [], Option, Some, None, Result, Ok, Err, codes}
use Rattle.std.specs.Prelude.{if◌then◌else◌}
use Rattle.std.specs.Str.{bytes_eq}
use Rattle.serde_json.specs.Data.{Data, null, boolean, number, string, array, object, Items, no_items, item, Members}
use Rattle.serde_json.specs.Data.{no_members, member}
use Rattle.serde_json.specs.Find.{as_str, as_bool, as_array}
use Rattle.base64.specs.GeneralPurpose.{decode_of}
use Rattle.base64.specs.Engines.{standard}
use Rattle.dbe_num.specs.Decimal.{Decimal}
use Rattle.dbe_num.specs.Reading.{number_of}
use Rattle.dbe_num.specs.NormalText.{normal_text}
use Rattle.dbe_values.specs.Val as v
use Rattle.dbe_values.specs.Val.{Val, Vals, Entries}
use Rattle.dbe_values.specs.Sets.{placed}
use Rattle.dbe_values.specs.Faults.{◌>>=◌, or_fault}
use Rattle.dbe_values.specs.declared.fault.ValueFault.{ValueFault}
use Rattle.dbe_values.specs.declared.fault.ValueFault.TheVariants.{Shape, BadNumber, BadBase64, EmptySet}
use Rattle.dbe_values.specs.declared.fault.ValueFault.TheVariants.{DoubledElement, TooDeep}
use Rattle.dbe_values.specs.declared.kind.Kind.{Kind}
use Rattle.dbe_values.specs.declared.kind.Kind.TheVariants as kind

-- the type that a member's name names
abbrev pub kind_of : List ℕ → Option Kind
kind_of name =
    if bytes_eq name (codes "S") then Some kind.S
    else if bytes_eq name (codes "N") then Some kind.N
    else if bytes_eq name (codes "B") then Some kind.B
    else if bytes_eq name (codes "BOOL") then Some kind.Bool
    else if bytes_eq name (codes "NULL") then Some kind.Null
    else if bytes_eq name (codes "SS") then Some kind.Ss
    else if bytes_eq name (codes "NS") then Some kind.Ns
    else if bytes_eq name (codes "BS") then Some kind.Bs
    else if bytes_eq name (codes "L") then Some kind.L
    else if bytes_eq name (codes "M") then Some kind.M
    else None

-- the member of an object that has just one
abbrev pub single_member : Members → Option (List ℕ × Data)
single_member no_members = None
single_member (member name d no_members) = Some (name, d)
single_member (member name d (member n e ms)) = None

abbrev pub single_of : Data → Option (List ℕ × Data)
single_of null = None
single_of (boolean b) = None
single_of (number n) = None
single_of (string s) = None
single_of (array ds) = None
single_of (object ms) = single_member ms

-- a text, a number by its text, and bytes in base64 (RFC 4648, section 4)
abbrev pub text_in : Data → Result (List ℕ) ValueFault
text_in d = or_fault Shape (as_str d)

abbrev pub or_bad_number : {E : Type 0} → Result Decimal E → Result Decimal ValueFault
or_bad_number (Ok n) = Ok n
or_bad_number (Err e) = Err BadNumber

abbrev pub number_in : Data → Result Decimal ValueFault
number_in d = text_in d >>= λ s. or_bad_number (number_of s)

abbrev pub or_bad_base64 : {A E : Type 0} → Result A E → Result A ValueFault
or_bad_base64 (Ok b) = Ok b
or_bad_base64 (Err e) = Err BadBase64

abbrev pub binary_in : Data → Result (List ℕ) ValueFault
binary_in d = text_in d >>= λ s. or_bad_base64 (decode_of standard s)

abbrev pub number_text_in : Data → Result (List ℕ) ValueFault
number_text_in d = number_in d >>= λ n. Ok (normal_text n)

-- elements put among others, in order
abbrev pub elements_after : (Data → Result (List ℕ) ValueFault) → List (List ℕ) → Items →
    Result (List (List ℕ)) ValueFault
elements_after element others no_items = Ok others
elements_after element others (item d ds) =
    element d >>= λ x. or_fault DoubledElement (placed x others) >>= λ more. elements_after element more ds

abbrev pub elements_of : (Data → Result (List ℕ) ValueFault) → Items → Result (List (List ℕ)) ValueFault
elements_of element no_items = Err EmptySet
elements_of element (item d ds) = elements_after element [] (item d ds)

abbrev pub elements_in : (Data → Result (List ℕ) ValueFault) → Data → Result (List (List ℕ)) ValueFault
elements_in element d = or_fault Shape (as_array d) >>= λ ds. elements_of element ds

abbrev pub boolean_in : Data → Result Bool ValueFault
boolean_in d = or_fault Shape (as_bool d)

-- NULL holds `true`
abbrev pub true_or_fault : Bool → Result Val ValueFault
true_or_fault true = Ok v.nothing
true_or_fault false = Err Shape

abbrev pub null_in : Data → Result Val ValueFault
null_in d = boolean_in d >>= true_or_fault

-- the value of a type that d spells, where it spells that list or that map
abbrev pub kind_in : Option Kind → Data → Result Val ValueFault → Result Val ValueFault → Result Val ValueFault
kind_in None d list map = Err Shape
kind_in (Some kind.S) d list map = text_in d >>= λ x. Ok (v.text x)
kind_in (Some kind.N) d list map = number_in d >>= λ x. Ok (v.number x)
kind_in (Some kind.B) d list map = binary_in d >>= λ x. Ok (v.binary x)
kind_in (Some kind.Bool) d list map = boolean_in d >>= λ x. Ok (v.boolean x)
kind_in (Some kind.Null) d list map = null_in d
kind_in (Some kind.Ss) d list map = elements_in text_in d >>= λ xs. Ok (v.texts xs)
kind_in (Some kind.Ns) d list map = elements_in number_text_in d >>= λ xs. Ok (v.numbers xs)
kind_in (Some kind.Bs) d list map = elements_in binary_in d >>= λ xs. Ok (v.binaries xs)
kind_in (Some kind.L) d list map = list
kind_in (Some kind.M) d list map = map

abbrev pub then_val : Result Val ValueFault → Result Vals ValueFault → Result Vals ValueFault
then_val first others = first >>= λ x. others >>= λ xs. Ok (v.val x xs)

abbrev pub then_entry : List ℕ → Result Val ValueFault → Result Entries ValueFault → Result Entries ValueFault
then_entry name first others = first >>= λ x. others >>= λ xs. Ok (v.entry name x xs)

-- left: how many levels of lists and maps may still nest
abbrev mutual
  pub value_in : ℕ → Data → Result Val ValueFault
  value_in left null = Err Shape
  value_in left (boolean b) = Err Shape
  value_in left (number n) = Err Shape
  value_in left (string s) = Err Shape
  value_in left (array ds) = Err Shape
  value_in left (object ms) = member_in left ms

  pub member_in : ℕ → Members → Result Val ValueFault
  member_in left no_members = Err Shape
  member_in left (member name d no_members) = kind_in (kind_of name) d (list_in left d) (map_in left d)
  member_in left (member name d (member n e ms)) = Err Shape

  pub list_in : ℕ → Data → Result Val ValueFault
  list_in zero d = Err TooDeep
  list_in (suc left) null = Err Shape
  list_in (suc left) (boolean b) = Err Shape
  list_in (suc left) (number n) = Err Shape
  list_in (suc left) (string s) = Err Shape
  list_in (suc left) (object ms) = Err Shape
  list_in (suc left) (array ds) = values_in left ds >>= λ vs. Ok (v.list vs)

  pub map_in : ℕ → Data → Result Val ValueFault
  map_in zero d = Err TooDeep
  map_in (suc left) null = Err Shape
  map_in (suc left) (boolean b) = Err Shape
  map_in (suc left) (number n) = Err Shape
  map_in (suc left) (string s) = Err Shape
  map_in (suc left) (array ds) = Err Shape
  map_in (suc left) (object ms) = entries_in left ms >>= λ es. Ok (v.map es)

  pub values_in : ℕ → Items → Result Vals ValueFault
  values_in left no_items = Ok v.no_vals
  values_in left (item d ds) = then_val (value_in left d) (values_in left ds)

  pub entries_in : ℕ → Members → Result Entries ValueFault
  entries_in left no_members = Ok v.no_entries
  entries_in left (member name d ms) = then_entry name (value_in left d) (entries_in left ms)
