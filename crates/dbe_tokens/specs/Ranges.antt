-- The ranges of names and placeholders (this project's own).
use Rattle.std.specs.Prelude.{Bool, true, ◌&&◌, ℕ, List, length, nat_lt, nat_le}
use Rattle.std.specs.List.{list_all}
use Rattle.std.specs.Char.{is_ascii}
use Rattle.dbe_tokens.specs.declared.token.Token.{Token}
use Rattle.dbe_tokens.specs.declared.token.Token.TheVariants as t
use Rattle.dbe_tokens.specs.declared.token.Operand.{Operand}
use Rattle.dbe_tokens.specs.declared.token.Operand.TheVariants as o
use Rattle.dbe_tokens.specs.declared.token.Name.{Name}
use Rattle.dbe_tokens.specs.declared.token.Name.TheVariants as n
use Rattle.dbe_tokens.specs.declared.token.Span.{Span}
use Rattle.dbe_tokens.specs.Text.{bytes_in}

abbrev pub range_of_name : Name → Span
range_of_name (n.Word span) = span
range_of_name (n.Placeholder span) = span

abbrev pub range_of : Operand → Span
range_of (o.Name name) = range_of_name name
range_of (o.Value span) = span

-- some bytes of the text, all of ASCII
abbrev pub is_range : List ℕ → Span → Bool
is_range text span = nat_lt span.start span.end && nat_le span.end (length text) && list_all is_ascii
    (bytes_in text span)

abbrev pub has_range : List ℕ → Token → Bool
has_range text (t.Operand a) = is_range text (range_of a)
has_range text token = true
