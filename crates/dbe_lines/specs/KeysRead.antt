-- A key that was read, or what is answered in its place (this project's own).
use Rattle.std.specs.Prelude.{◌≡◌}
use Rattle.dbe_values.specs.declared.key.KeyValue.{KeyValue}
use Rattle.dbe_values.specs.declared.fault.ItemFault.{ItemFault}
use Rattle.dbe_values.specs.declared.fault.ItemFault.TheVariants.{NotObject, At}
use Rattle.dbe_values.specs.declared.fault.ValueFault.TheVariants as v
use Rattle.dbe_lines.specs.declared.request.Request.{Request}
use Rattle.dbe_lines.specs.declared.request.Request.TheVariants as r
use Rattle.dbe_lines.specs.declared.requests.KeyRead.{KeyRead}
use Rattle.dbe_lines.specs.declared.requests.KeyRead.TheVariants.{Key, Refused}

abbrev pub made : (KeyValue → Request) → KeyRead → Request
made make (Key k) = make k
made make (Refused request) = request

-- the request that stands for a fault of an item
abbrev pub fault_request : ItemFault → Request
fault_request NotObject = r.Shape
fault_request (At name why) = r.Value name why

-- a fault that is told, and so is not out of memory
abbrev pub IsTold : ItemFault → Type 0
IsTold NotObject = Unit {0}
IsTold (At name v.Memory) = ⊥
IsTold (At name v.Shape) = Unit {0}
IsTold (At name v.BadNumber) = Unit {0}
IsTold (At name v.BadBase64) = Unit {0}
IsTold (At name v.EmptySet) = Unit {0}
IsTold (At name v.DoubledElement) = Unit {0}
IsTold (At name v.TooDeep) = Unit {0}
IsTold (At name v.BadName) = Unit {0}

abbrev pub IsFaultOf : ItemFault → Request → Type 0
IsFaultOf fault request = IsTold fault × (request ≡ fault_request fault)
