-- The placeholders that stand in a text (this project's own).
use Rattle.std.specs.Prelude.{ℕ, Bool, List, map, filter_map, Option, Some, None, is_some}
use Rattle.std.specs.List.{list_all}
use Rattle.std.specs.Char.{is_ascii}
use Rattle.dbe_values.specs.declared.value.AttrValue.{AttrValue}
use Rattle.dbe_tokens.specs.Text.{bytes_in}
use Rattle.dbe_tokens.specs.declared.token.Span.{Span}
use Rattle.dbe_tokens.specs.declared.token.Token.{Token}
use Rattle.dbe_tokens.specs.declared.token.Token.TheVariants as t
use Rattle.dbe_tokens.specs.declared.token.Name.TheVariants as n
use Rattle.dbe_tokens.specs.declared.token.Operand.{Operand}
use Rattle.dbe_tokens.specs.declared.token.Operand.TheVariants as o
use Rattle.dbe_cond.specs.Given.{given}

-- the range of a placeholder of a name
abbrev pub name_placeholder : Token → Option Span
name_placeholder (t.Operand (o.Name (n.Placeholder span))) = Some span
name_placeholder token = None

-- the range of a placeholder of a value
abbrev pub value_placeholder : Token → Option Span
value_placeholder (t.Operand (o.Value span)) = Some span
value_placeholder token = None

-- those of names among tokens, in text order
abbrev pub name_placeholders : List ℕ → List Token → List (List ℕ)
name_placeholders text tokens = map (bytes_in text) (filter_map name_placeholder tokens)

-- those of values among tokens, in text order
abbrev pub value_placeholders : List ℕ → List Token → List (List ℕ)
value_placeholders text tokens = map (bytes_in text) (filter_map value_placeholder tokens)

-- a word of ASCII, or a placeholder that is given
abbrev pub is_known : List ℕ → List (List ℕ × List ℕ) → List (List ℕ × AttrValue) → Operand → Bool
is_known text names values (o.Name (n.Word span)) = list_all is_ascii (bytes_in text span)
is_known text names values (o.Name (n.Placeholder span)) = is_some (given (bytes_in text span) names)
is_known text names values (o.Value span) = is_some (given (bytes_in text span) values)
