-- What holds of each name and placeholder of a condition (this project's own).
use Rattle.std.specs.Prelude.{Bool, true, ◌&&◌}
use Rattle.std.specs.List.{list_all}
use Rattle.dbe_tokens.specs.declared.token.Token.{Token}
use Rattle.dbe_tokens.specs.declared.token.Token.TheVariants as t
use Rattle.dbe_tokens.specs.declared.token.Operand.{Operand}
use Rattle.dbe_tokens.specs.declared.token.Operand.TheVariants as o
use Rattle.dbe_grammar.specs.Form.{Form, Forms, compare, between, within, begins, exists, lacks, not, and, or, none}
use Rattle.dbe_grammar.specs.Form.{some}

abbrev pub token_passes : (Operand → Bool) → Token → Bool
token_passes test (t.Operand a) = test a
token_passes test token = true

abbrev mutual
  pub form_passes : (Operand → Bool) → Form → Bool
  form_passes test (compare left op right) = test left && test right
  form_passes test (between value low high) = test value && test low && test high
  form_passes test (within value list) = test value && list_all test list
  form_passes test (begins name front) = test (o.Name name) && test front
  form_passes test (exists name) = test (o.Name name)
  form_passes test (lacks name) = test (o.Name name)
  form_passes test (not f) = form_passes test f
  form_passes test (and fs) = forms_pass test fs
  form_passes test (or fs) = forms_pass test fs

  pub forms_pass : (Operand → Bool) → Forms → Bool
  forms_pass test none = true
  forms_pass test (some f fs) = form_passes test f && forms_pass test fs
