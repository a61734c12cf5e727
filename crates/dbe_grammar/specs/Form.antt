-- What a condition is, without where it lies in memory (this project's own).
use Rattle.std.specs.Prelude.{◌≢◌, List, [], ◌∷◌, map}
use Rattle.dbe_tokens.specs.declared.token.Op.{Op}
use Rattle.dbe_tokens.specs.declared.token.Name.{Name}
use Rattle.dbe_tokens.specs.declared.token.Operand.{Operand}
use Rattle.dbe_grammar.specs.declared.tree.Tree.{Tree, fold-Tree}
use Rattle.dbe_grammar.specs.declared.tree.Tree.TheOpen.{Tree-F}

mutual
  pub data Form : Type 0 where
    compare : Operand → Op → Operand → Form
    between : Operand → Operand → Operand → Form
    within : Operand → List Operand → Form
    begins : Name → Operand → Form
    exists : Name → Form
    lacks : Name → Form
    not : Form → Form
    and : Forms → Form
    or : Forms → Form

  pub data Forms : Type 0 where
    none : Forms
    some : Form → Forms → Forms

abbrev pub forms_of : List Form → Forms
forms_of [] = none
forms_of (f ∷ fs) = some f (forms_of fs)

abbrev pub form_step : Tree-F Form → Form
form_step (Tree-F.Compare left op right) = compare left op right
form_step (Tree-F.Between value low high) = between value low high
form_step (Tree-F.In value list) = within value list
form_step (Tree-F.BeginsWith name front) = begins name front
form_step (Tree-F.Exists name) = exists name
form_step (Tree-F.NotExists name) = lacks name
form_step (Tree-F.Not f) = not f
form_step (Tree-F.And fs) = and (forms_of fs)
form_step (Tree-F.Or fs) = or (forms_of fs)

-- the condition that a tree is
abbrev pub form_of : Tree → Form
form_of = fold-Tree Form form_step

abbrev pub members_of : List Tree → Forms
members_of trees = forms_of (map form_of trees)

abbrev pub HaveTwo : Forms → Type 0
HaveTwo (some f (some g fs)) = Unit {0}
HaveTwo fs = ⊥

-- And and Or have two members or more, and a list of IN has one or more.
abbrev mutual
  pub IsLawful : Form → Type 0
  IsLawful (compare left op right) = Unit {0}
  IsLawful (between value low high) = Unit {0}
  IsLawful (within value list) = list ≢ []
  IsLawful (begins name front) = Unit {0}
  IsLawful (exists name) = Unit {0}
  IsLawful (lacks name) = Unit {0}
  IsLawful (not f) = IsLawful f
  IsLawful (and fs) = HaveTwo fs × AreLawful fs
  IsLawful (or fs) = HaveTwo fs × AreLawful fs

  pub AreLawful : Forms → Type 0
  AreLawful none = Unit {0}
  AreLawful (some f fs) = IsLawful f × AreLawful fs

-- one more at the end
abbrev pub forms_last : Forms → Form → Forms
forms_last none g = some g none
forms_last (some f fs) g = some f (forms_last fs g)
