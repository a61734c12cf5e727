-- What a condition is, without where it lies in memory (this project's own).
use Rattle.std.specs.Prelude.{◌≢◌, ℕ, List, [], ◌∷◌, map}
use Rattle.dbe_tokens.specs.declared.token.Op.{Op}
use Rattle.dbe_cond.specs.declared.operand.Operand.{Operand}
use Rattle.dbe_cond.specs.declared.cond.Cond.{Cond, fold-Cond}
use Rattle.dbe_cond.specs.declared.cond.Cond.TheOpen.{Cond-F}

mutual
  pub data Condition : Type 0 where
    compare : Operand → Op → Operand → Condition
    between : Operand → Operand → Operand → Condition
    within : Operand → List Operand → Condition
    begins : List ℕ → Operand → Condition
    exists : List ℕ → Condition
    lacks : List ℕ → Condition
    not : Condition → Condition
    and : Conditions → Condition
    or : Conditions → Condition

  pub data Conditions : Type 0 where
    none : Conditions
    some : Condition → Conditions → Conditions

abbrev pub conditions_of : List Condition → Conditions
conditions_of [] = none
conditions_of (c ∷ cs) = some c (conditions_of cs)

-- one level, with each condition inside already seen
abbrev pub condition_step : Cond-F Condition → Condition
condition_step (Cond-F.Compare left op right) = compare left op right
condition_step (Cond-F.Between value low high) = between value low high
condition_step (Cond-F.In value list) = within value list
condition_step (Cond-F.BeginsWith name front) = begins name front
condition_step (Cond-F.Exists name) = exists name
condition_step (Cond-F.NotExists name) = lacks name
condition_step (Cond-F.Not c) = not c
condition_step (Cond-F.And cs) = and (conditions_of cs)
condition_step (Cond-F.Or cs) = or (conditions_of cs)

-- the condition that a `Cond` is
abbrev pub condition_of : Cond → Condition
condition_of = fold-Cond Condition condition_step

abbrev pub members_of : List Cond → Conditions
members_of conds = conditions_of (map condition_of conds)

abbrev pub HaveTwo : Conditions → Type 0
HaveTwo (some c (some d cs)) = Unit {0}
HaveTwo cs = ⊥

-- And and Or have two members or more, and a list of IN has one or more.
abbrev mutual
  pub IsLawful : Condition → Type 0
  IsLawful (compare left op right) = Unit {0}
  IsLawful (between value low high) = Unit {0}
  IsLawful (within value list) = list ≢ []
  IsLawful (begins name front) = Unit {0}
  IsLawful (exists name) = Unit {0}
  IsLawful (lacks name) = Unit {0}
  IsLawful (not c) = IsLawful c
  IsLawful (and cs) = HaveTwo cs × AreLawful cs
  IsLawful (or cs) = HaveTwo cs × AreLawful cs

  pub AreLawful : Conditions → Type 0
  AreLawful none = Unit {0}
  AreLawful (some c cs) = IsLawful c × AreLawful cs
