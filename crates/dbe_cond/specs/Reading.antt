-- Reading the text of a condition (this project's own).
use Rattle.std.specs.Prelude.{◌≡◌, ◌≢◌, ℕ, ◌<◌, ◌≤◌, Bool, true, false, ◌||◌, List, [], ◌∷◌, length, nat_lt, get_or}
use Rattle.std.specs.Prelude.{Result, Ok, Err}
use Rattle.dbe_values.specs.declared.value.AttrValue.{AttrValue}
use Rattle.dbe_tokens.specs.Text.{IsCut, IsBadAt}
use Rattle.dbe_tokens.specs.Deep.{IsTooDeep}
use Rattle.dbe_tokens.specs.declared.token.Token.{Token}
use Rattle.dbe_grammar.specs.Form.{Form, Forms}
use Rattle.dbe_grammar.specs.Form as f
use Rattle.dbe_grammar.specs.Grammar.{IsCond}
use Rattle.dbe_grammar.specs.Reading.{IsMisfit}
use Rattle.dbe_cond.specs.Condition.{Condition, condition_of}
use Rattle.dbe_cond.specs.Given.{not_given}
use Rattle.dbe_cond.specs.Placeholders.{name_placeholders, value_placeholders}
use Rattle.dbe_cond.specs.Resolved.{resolved}
use Rattle.dbe_cond.specs.declared.cond.Cond.{Cond}
use Rattle.dbe_cond.specs.declared.fault.CondFault.{CondFault}
use Rattle.dbe_cond.specs.declared.fault.CondFault.TheVariants as fault

-- The text has at most 4,096 bytes, and is cut into these tokens, which are not too deep.
pub record AreTokensOf (text : List ℕ) (tokens : List Token) (starts : List ℕ) : Type 0 where
  pub short : length text ≤ 4096
  pub cut : IsCut text tokens starts
  pub shallow : IsTooDeep tokens → ⊥

-- a list of IN with more than 100 members
abbrev mutual
  pub has_long_list : Form → Bool
  has_long_list (f.compare left op right) = false
  has_long_list (f.between value low high) = false
  has_long_list (f.within value list) = nat_lt 100 (length list)
  has_long_list (f.begins name front) = false
  has_long_list (f.exists name) = false
  has_long_list (f.lacks name) = false
  has_long_list (f.not form) = has_long_list form
  has_long_list (f.and forms) = have_long_list forms
  has_long_list (f.or forms) = have_long_list forms

  pub have_long_list : Forms → Bool
  have_long_list f.none = false
  have_long_list (f.some form forms) = has_long_list form || have_long_list forms

-- The text is this condition, whose names and placeholders are ranges of it.
pub record Parses (text : List ℕ) (tokens : List Token) (form : Form) : Type 0 where
  pub starts : List ℕ
  pub are_tokens : AreTokensOf text tokens starts
  pub cond : IsCond tokens form

pub record Reads (text : List ℕ) (names : List (List ℕ × List ℕ)) (values : List (List ℕ × AttrValue)) (c : Condition)
    : Type 0 where
  pub tokens : List Token
  pub form : Form
  pub parses : Parses text tokens form
  pub lists : has_long_list form ≡ false
  pub names_given : not_given names (name_placeholders text tokens) ≡ []
  pub values_given : not_given values (value_placeholders text tokens) ≡ []
  pub means : c ≡ resolved text names values form

-- at some token it nests too deep
pub record NestsTooDeep (text : List ℕ) : Type 0 where
  pub tokens : List Token
  pub starts : List ℕ
  pub short : length text ≤ 4096
  pub cut : IsCut text tokens starts
  pub deep : IsTooDeep tokens

-- No condition has these tokens. The offset is that of the first token with which the tokens up to it begin no
-- condition, or the text's length where all of them begin one.
pub record IsMisfitAt (text : List ℕ) (at : ℕ) : Type 0 where
  pub tokens : List Token
  pub starts : List ℕ
  pub are_tokens : AreTokensOf text tokens starts
  pub place : ℕ
  pub misfit : IsMisfit tokens place
  pub offset : at ≡ get_or starts place (length text)

pub record HasLongList (text : List ℕ) : Type 0 where
  pub tokens : List Token
  pub form : Form
  pub parses : Parses text tokens form
  pub long : has_long_list form ≡ true

-- neither its length, nor its depth, nor a list of IN is past a limit
pub record IsWithinLimits (text : List ℕ) : Type 0 where
  pub short : length text ≤ 4096
  pub shallow : NestsTooDeep text → ⊥
  pub lists : HasLongList text → ⊥

-- the first placeholder of a name that is not given
pub record LacksName (text : List ℕ) (names : List (List ℕ × List ℕ)) (name : List ℕ) : Type 0 where
  pub tokens : List Token
  pub form : Form
  pub parses : Parses text tokens form
  pub lists : has_long_list form ≡ false
  pub others : List (List ℕ)
  pub first : not_given names (name_placeholders text tokens) ≡ name ∷ others

-- the first placeholder of a value that is not given, where all names are
pub record LacksValue (text : List ℕ) (names : List (List ℕ × List ℕ)) (values : List (List ℕ × AttrValue))
    (name : List ℕ) : Type 0 where
  pub tokens : List Token
  pub form : Form
  pub parses : Parses text tokens form
  pub lists : has_long_list form ≡ false
  pub names_given : not_given names (name_placeholders text tokens) ≡ []
  pub others : List (List ℕ)
  pub first : not_given values (value_placeholders text tokens) ≡ name ∷ others

-- Each refusal is the first of its order: what stands before it does not hold.
abbrev pub Refuses : List ℕ → List (List ℕ × List ℕ) → List (List ℕ × AttrValue) → CondFault → Type 0
Refuses text names values fault.Memory = Unit {0}
Refuses text names values fault.TooLong = 4096 < length text
Refuses text names values (fault.BadToken at) = (length text ≤ 4096) × IsBadAt text at
Refuses text names values fault.TooDeep = NestsTooDeep text
Refuses text names values (fault.Syntax at) = IsMisfitAt text at
Refuses text names values fault.TooManyOperands = HasLongList text
Refuses text names values (fault.UnknownName name) = LacksName text names name
Refuses text names values (fault.UnknownValue name) = LacksValue text names values name

-- this condition, unless memory ran out
abbrev pub Gives : Result Cond CondFault → Condition → Type 0
Gives (Ok found) c = condition_of found ≡ c
Gives (Err why) c = why ≡ fault.Memory

-- this fault, unless memory ran out
abbrev pub GivesFault : Result Cond CondFault → CondFault → Type 0
GivesFault (Ok found) wanted = ⊥
GivesFault (Err why) wanted = (why ≢ fault.Memory) → why ≡ wanted
