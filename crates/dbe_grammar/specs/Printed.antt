-- How a condition is printed as tokens (this project's own).
use Rattle.std.specs.Prelude.{Bool, true, false, ◌||◌, List, [], ◌∷◌}
use Rattle.dbe_tokens.specs.declared.token.Token.{Token}
use Rattle.dbe_tokens.specs.declared.token.Token.TheVariants as t
use Rattle.dbe_tokens.specs.declared.token.Operand.{Operand}
use Rattle.dbe_grammar.specs.Grammar.{comma_text, name_text, pair_text}
use Rattle.dbe_grammar.specs.Form.{Form, Forms, compare, between, within, begins, exists, lacks, not, and, or, none}
use Rattle.dbe_grammar.specs.Form.{some}

-- operands with commas between them
abbrev pub list_printed : List Operand → List Token → List Token
list_printed [] others = others
list_printed (a ∷ list) others = t.Operand a ∷ comma_text list others

abbrev pub is_and : Form → Bool
is_and (and fs) = true
is_and f = false

abbrev pub is_or : Form → Bool
is_or (or fs) = true
is_or f = false

abbrev pub is_chain : Form → Bool
is_chain f = is_and f || is_or f

-- what is printed, in parentheses or not, and then others
abbrev pub in_parentheses : Bool → (List Token → List Token) → List Token → List Token
in_parentheses true text others = t.Open ∷ text (t.Close ∷ others)
in_parentheses false text others = text others

-- The tokens of a condition, and then others. What NOT stands before and a member of And are in parentheses where they
-- are And or Or, a member of Or where it is Or, and nothing else is.
abbrev mutual
  pub printed : Form → List Token → List Token
  printed (compare a op b) others = t.Operand a ∷ t.Compare op ∷ t.Operand b ∷ others
  printed (between a low high) others = t.Operand a ∷ t.Between ∷ t.Operand low ∷ t.And ∷ t.Operand high ∷ others
  printed (within a list) others = t.Operand a ∷ t.In ∷ t.Open ∷ list_printed list (t.Close ∷ others)
  printed (begins name front) others = t.BeginsWith ∷ pair_text name front others
  printed (exists name) others = t.Exists ∷ name_text name others
  printed (lacks name) others = t.NotExists ∷ name_text name others
  printed (not f) others = t.Not ∷ in_parentheses (is_chain f) (printed f) others
  printed (and fs) others = and_printed fs others
  printed (or fs) others = or_printed fs others

  pub and_printed : Forms → List Token → List Token
  and_printed none others = others
  and_printed (some f fs) others = in_parentheses (is_chain f) (printed f) (more_ands fs others)

  pub more_ands : Forms → List Token → List Token
  more_ands none others = others
  more_ands (some f fs) others = t.And ∷ in_parentheses (is_chain f) (printed f) (more_ands fs others)

  pub or_printed : Forms → List Token → List Token
  or_printed none others = others
  or_printed (some f fs) others = in_parentheses (is_or f) (printed f) (more_ors fs others)

  pub more_ors : Forms → List Token → List Token
  more_ors none others = others
  more_ors (some f fs) others = t.Or ∷ in_parentheses (is_or f) (printed f) (more_ors fs others)
