-- The values of a condition (this project's own).
use Rattle.std.specs.Prelude.{List, [], ◌∷◌, ◌++◌}
use Rattle.std.specs.List.{flat_map}
use Rattle.dbe_values.specs.declared.value.AttrValue.{AttrValue}
use Rattle.dbe_cond.specs.declared.operand.Operand.{Operand}
use Rattle.dbe_cond.specs.declared.operand.Operand.TheVariants.{Name, Value}
use Rattle.dbe_cond.specs.Condition.{Condition, Conditions, compare, between, within, begins, exists, lacks, not, and}
use Rattle.dbe_cond.specs.Condition.{or, none, some}

abbrev pub operand_values : Operand → List AttrValue
operand_values (Name name) = []
operand_values (Value v) = v ∷ []

-- in the order in which they stand in the condition's text
abbrev mutual
  pub values_of : Condition → List AttrValue
  values_of (compare left op right) = operand_values left ++ operand_values right
  values_of (between value low high) = operand_values value ++ operand_values low ++ operand_values high
  values_of (within value list) = operand_values value ++ flat_map operand_values list
  values_of (begins name front) = operand_values front
  values_of (exists name) = []
  values_of (lacks name) = []
  values_of (not c) = values_of c
  values_of (and cs) = values_of_all cs
  values_of (or cs) = values_of_all cs

  pub values_of_all : Conditions → List AttrValue
  values_of_all none = []
  values_of_all (some c cs) = values_of c ++ values_of_all cs
