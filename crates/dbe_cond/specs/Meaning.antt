-- What a condition means over an item (Amazon DynamoDB Developer Guide, "Comparison operator and function reference").
-- The guide says what holds of values of one type that are there. What holds where a name is absent or the types
-- differ is
-- this project's own, and so is the equality of numbers, sets, lists and maps by value.
use Rattle.std.specs.Prelude.{ℕ, Bool, false, not, ◌&&◌, ◌||◌, true, List, Option, Some, None, nat_eq}
use Rattle.std.specs.List.{list_any, starts_with}
use Rattle.std.specs.Option.{is_some}
use Rattle.std.specs.Ordering.{is_lt, is_le, is_gt, is_ge}
use Rattle.std.specs.declared.cmp.Ordering.{Ordering}
use Rattle.dbe_tokens.specs.declared.token.Op.{Op}
use Rattle.dbe_tokens.specs.declared.token.Op.TheVariants.{Eq, Ne, Lt, Le, Gt, Ge}
use Rattle.dbe_values.specs.declared.value.AttrValue.{AttrValue}
use Rattle.dbe_values.specs.Attributes.{value_at, equal}
use Rattle.dbe_values.specs.Val.{Val, text, binary, order_of}
use Rattle.dbe_values.specs.View.{view}
use Rattle.dbe_cond.specs.declared.operand.Operand.{Operand}
use Rattle.dbe_cond.specs.declared.operand.Operand.TheVariants.{Name, Value}
use Rattle.dbe_cond.specs.Condition.{Condition, Conditions}
use Rattle.dbe_cond.specs.Condition as c

-- the value of an operand, absent where the item has no attribute of its name
abbrev pub value_of : Operand → List (List ℕ × AttrValue) → Option AttrValue
value_of (Name name) item = value_at name item
value_of (Value v) item = Some v

-- whether both values are there and pass a test
abbrev pub both_pass : (AttrValue → AttrValue → Bool) → Option AttrValue → Option AttrValue → Bool
both_pass test None b = false
both_pass test (Some a) None = false
both_pass test (Some a) (Some b) = test a b

-- Texts, numbers and binaries have an order, each among their own type.
abbrev pub order_between : Option AttrValue → Option AttrValue → Option Ordering
order_between None b = None
order_between (Some a) None = None
order_between (Some a) (Some b) = order_of (view a) (view b)

-- whether there is an order and it passes a test
abbrev pub order_passes : (Ordering → Bool) → Option Ordering → Bool
order_passes test None = false
order_passes test (Some order) = test order

-- The six operators. What is absent is equal to nothing and ordered with nothing, so `<>` alone holds of it.
abbrev pub compares : Op → Option AttrValue → Option AttrValue → Bool
compares Eq a b = both_pass equal a b
compares Ne a b = not (both_pass equal a b)
compares Lt a b = order_passes is_lt (order_between a b)
compares Le a b = order_passes is_le (order_between a b)
compares Gt a b = order_passes is_gt (order_between a b)
compares Ge a b = order_passes is_ge (order_between a b)

-- a text begins with a text, a binary with a binary
abbrev pub begins_with : Val → Val → Bool
begins_with (text x) (text front) = starts_with nat_eq x front
begins_with (binary x) (binary front) = starts_with nat_eq x front
begins_with _ _ = false

abbrev pub value_begins : AttrValue → AttrValue → Bool
value_begins a front = begins_with (view a) (view front)

-- Whether a condition holds of an item.
abbrev mutual
  pub holds : Condition → List (List ℕ × AttrValue) → Bool
  holds (c.compare left op right) item = compares op (value_of left item) (value_of right item)
  holds (c.between value low high) item =
      compares Ge (value_of value item) (value_of low item) && compares Le (value_of value item) (value_of high item)
  holds (c.within value list) item = list_any (λ a. compares Eq (value_of value item) (value_of a item)) list
  holds (c.begins name front) item = both_pass value_begins (value_at name item) (value_of front item)
  holds (c.exists name) item = is_some (value_at name item)
  holds (c.lacks name) item = not (is_some (value_at name item))
  holds (c.not inner) item = not (holds inner item)
  holds (c.and members) item = all_hold members item
  holds (c.or members) item = one_holds members item

  pub all_hold : Conditions → List (List ℕ × AttrValue) → Bool
  all_hold c.none item = true
  all_hold (c.some member members) item = holds member item && all_hold members item

  pub one_holds : Conditions → List (List ℕ × AttrValue) → Bool
  one_holds c.none item = false
  one_holds (c.some member members) item = holds member item || one_holds members item
