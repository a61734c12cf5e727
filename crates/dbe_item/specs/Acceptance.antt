-- Which items may be stored (Amazon DynamoDB Developer Guide, "Service, account, and table quotas": 400 KB an item;
-- how a size is
-- counted and the other rules are this project's own).
use Rattle.std.specs.Prelude.{ℕ, ◌+◌, Bool, List, [], ◌∷◌, length, nat_lt, is_none, sum_by, Option, Some, None}
use Rattle.std.specs.Prelude.{if◌then◌else◌}
use Rattle.dbe_values.specs.View.{view}
use Rattle.dbe_values.specs.declared.value.AttrValue.{AttrValue}
use Rattle.dbe_values.specs.Keys.{key_fault}
use Rattle.dbe_canon.specs.Canon.{canon_of}
use Rattle.dbe_config.specs.Setting.{Setting}
use Rattle.dbe_config.specs.Actions.{is_reserved, action_for}
use Rattle.dbe_item.specs.declared.fault.PutFault.{PutFault}
use Rattle.dbe_item.specs.declared.fault.PutFault.TheVariants as f

-- the first attribute whose name passes a test
abbrev pub first_name : (List ℕ → Bool) → List (List ℕ × AttrValue) → Option (List ℕ)
first_name test [] = None
first_name test (a ∷ others) = if test a.0 then Some a.0 else first_name test others

-- a name that the configuration gives no action
abbrev pub is_unknown : Setting → List ℕ → Bool
is_unknown c name = is_none (action_for c.schema c.actions c.unsigned_prefix name)

-- the bytes of an attribute: those of its name and its canonical bytes
abbrev pub attribute_size : List ℕ × AttrValue → ℕ
attribute_size a = length a.0 + length (canon_of (view a.1))

abbrev pub item_size : List (List ℕ × AttrValue) → ℕ
item_size item = sum_by attribute_size item

-- a fault, else the next one
abbrev pub or_next : Option PutFault → Option PutFault → Option PutFault
or_next (Some fault) next = Some fault
or_next None next = next

abbrev pub fault_of_key : Option (List ℕ) → Option PutFault
fault_of_key None = None
fault_of_key (Some name) = Some (f.Key name)

abbrev pub reserved_fault : Option (List ℕ) → Option PutFault
reserved_fault None = None
reserved_fault (Some name) = Some (f.Reserved name)

abbrev pub unknown_fault : Option (List ℕ) → Option PutFault
unknown_fault None = None
unknown_fault (Some name) = Some (f.Unknown name)

abbrev pub fault_where : Bool → PutFault → Option PutFault
fault_where broken fault = if broken then Some fault else None

-- Why an item may not be stored: no lawful key, a name that begins with `aws_dbe_`, one that has no action, more than
-- 1,000 attributes, more than 409,600 bytes. The first in this order counts.
abbrev pub put_fault : Setting → List (List ℕ × AttrValue) → Option PutFault
put_fault c item =
    or_next (fault_of_key (key_fault c.schema item))
    (or_next (reserved_fault (first_name is_reserved item))
    (or_next (unknown_fault (first_name (is_unknown c) item))
    (or_next (fault_where (nat_lt 1000 (length item)) f.TooMany)
    (fault_where (nat_lt 409600 (item_size item)) f.Size))))

-- a refusal that names an attribute
abbrev pub HasName : Option PutFault → Type 0
HasName (Some (f.Key name)) = Unit {0}
HasName (Some (f.Reserved name)) = Unit {0}
HasName (Some (f.Unknown name)) = Unit {0}
HasName _ = ⊥
