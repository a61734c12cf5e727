-- A condition with its names and placeholders resolved (this project's own).
use Rattle.std.specs.Prelude.{ℕ, List, [], map, unwrap_or}
use Rattle.dbe_values.specs.declared.value.AttrValue.{AttrValue}
use Rattle.dbe_values.specs.declared.value.AttrValue.TheVariants.{Null}
use Rattle.dbe_tokens.specs.Text.{bytes_in}
use Rattle.dbe_tokens.specs.declared.token.Name.{Name}
use Rattle.dbe_tokens.specs.declared.token.Name.TheVariants as n
use Rattle.dbe_tokens.specs.declared.token.Operand.TheVariants as to
use Rattle.dbe_tokens.specs.declared.token.Operand.{Operand as TokenOperand}
use Rattle.dbe_grammar.specs.Form.{Form, Forms}
use Rattle.dbe_grammar.specs.Form as f
use Rattle.dbe_cond.specs.Condition.{Condition, Conditions, compare, between, within, begins, exists, lacks, not, and}
use Rattle.dbe_cond.specs.Condition.{or, none, some}
use Rattle.dbe_cond.specs.declared.operand.Operand.{Operand}
use Rattle.dbe_cond.specs.declared.operand.Operand.TheVariants as o
use Rattle.dbe_cond.specs.Given.{given}

-- A word is its bytes, and a placeholder is what is given for it. (`Reads` asks that something is.)
abbrev pub name_of : List ℕ → List (List ℕ × List ℕ) → Name → List ℕ
name_of text names (n.Word span) = bytes_in text span
name_of text names (n.Placeholder span) = unwrap_or (given (bytes_in text span) names) []

abbrev pub operand_of : List ℕ → List (List ℕ × List ℕ) → List (List ℕ × AttrValue) → TokenOperand → Operand
operand_of text names values (to.Name name) = o.Name (name_of text names name)
operand_of text names values (to.Value span) = o.Value (unwrap_or (given (bytes_in text span) values) Null)

abbrev mutual
  pub resolved : List ℕ → List (List ℕ × List ℕ) → List (List ℕ × AttrValue) → Form → Condition
  resolved text names values (f.compare left op right) =
      compare (operand_of text names values left) op (operand_of text names values right)
  resolved text names values (f.between value low high) =
      between (operand_of text names values value) (operand_of text names values low) (operand_of text names values
      high)
  resolved text names values (f.within value list) =
      within (operand_of text names values value) (map (operand_of text names values) list)
  resolved text names values (f.begins name front) =
      begins (name_of text names name) (operand_of text names values front)
  resolved text names values (f.exists name) = exists (name_of text names name)
  resolved text names values (f.lacks name) = lacks (name_of text names name)
  resolved text names values (f.not form) = not (resolved text names values form)
  resolved text names values (f.and forms) = and (all_resolved text names values forms)
  resolved text names values (f.or forms) = or (all_resolved text names values forms)

  pub all_resolved : List ℕ → List (List ℕ × List ℕ) → List (List ℕ × AttrValue) → Forms → Conditions
  all_resolved text names values f.none = none
  all_resolved text names values (f.some form forms) =
      some (resolved text names values form) (all_resolved text names values forms)
