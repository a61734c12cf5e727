-- The same tokens and the same condition at other places of a text (this project's own).
use Rattle.std.specs.Prelude.{map}
use Rattle.dbe_tokens.specs.declared.token.Token.{Token}
use Rattle.dbe_tokens.specs.declared.token.Token.TheVariants as t
use Rattle.dbe_tokens.specs.declared.token.Operand.{Operand}
use Rattle.dbe_tokens.specs.declared.token.Operand.TheVariants as o
use Rattle.dbe_tokens.specs.declared.token.Name.{Name}
use Rattle.dbe_tokens.specs.declared.token.Name.TheVariants as n
use Rattle.dbe_tokens.specs.declared.token.Span.{Span}
use Rattle.dbe_grammar.specs.Form.{Form, Forms, compare, between, within, begins, exists, lacks, not, and, or, none}
use Rattle.dbe_grammar.specs.Form.{some}

abbrev pub move_name : (Span → Span) → Name → Name
move_name place (n.Word span) = n.Word (place span)
move_name place (n.Placeholder span) = n.Placeholder (place span)

abbrev pub move_operand : (Span → Span) → Operand → Operand
move_operand place (o.Name name) = o.Name (move_name place name)
move_operand place (o.Value span) = o.Value (place span)

abbrev pub move_token : (Span → Span) → Token → Token
move_token place (t.Operand operand) = t.Operand (move_operand place operand)
move_token place token = token

abbrev mutual
  pub move_form : (Span → Span) → Form → Form
  move_form place (compare left op right) = compare (move_operand place left) op (move_operand place right)
  move_form place (between value low high) = between (move_operand place value) (move_operand place low)
      (move_operand place high)
  move_form place (within value list) = within (move_operand place value) (map (move_operand place) list)
  move_form place (begins name front) = begins (move_name place name) (move_operand place front)
  move_form place (exists name) = exists (move_name place name)
  move_form place (lacks name) = lacks (move_name place name)
  move_form place (not f) = not (move_form place f)
  move_form place (and fs) = and (move_forms place fs)
  move_form place (or fs) = or (move_forms place fs)

  pub move_forms : (Span → Span) → Forms → Forms
  move_forms place none = none
  move_forms place (some f fs) = some (move_form place f) (move_forms place fs)
