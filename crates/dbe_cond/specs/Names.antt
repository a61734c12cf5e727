-- The names of a condition (this project's own).
use Rattle.std.specs.Prelude.{ℕ, List, [], ◌∷◌, ◌++◌, Option, nat_eq}
use Rattle.std.specs.List.{find, flat_map, starts_with}
use Rattle.dbe_cond.specs.declared.operand.Operand.{Operand}
use Rattle.dbe_cond.specs.declared.operand.Operand.TheVariants.{Name, Value}
use Rattle.dbe_cond.specs.Condition.{Condition, Conditions, compare, between, within, begins, exists, lacks, not, and}
use Rattle.dbe_cond.specs.Condition.{or, none, some}

abbrev pub operand_names : Operand → List (List ℕ)
operand_names (Name name) = name ∷ []
operand_names (Value v) = []

-- in the order in which they stand in the condition's text
abbrev mutual
  pub names_of : Condition → List (List ℕ)
  names_of (compare left op right) = operand_names left ++ operand_names right
  names_of (between value low high) = operand_names value ++ operand_names low ++ operand_names high
  names_of (within value list) = operand_names value ++ flat_map operand_names list
  names_of (begins name front) = name ∷ operand_names front
  names_of (exists name) = name ∷ []
  names_of (lacks name) = name ∷ []
  names_of (not c) = names_of c
  names_of (and cs) = names_of_all cs
  names_of (or cs) = names_of_all cs

  pub names_of_all : Conditions → List (List ℕ)
  names_of_all none = []
  names_of_all (some c cs) = names_of c ++ names_of_all cs

-- the first name that begins with a prefix
abbrev pub first_with : List ℕ → List (List ℕ) → Option (List ℕ)
first_with prefix names = find (λ name. starts_with nat_eq name prefix) names
