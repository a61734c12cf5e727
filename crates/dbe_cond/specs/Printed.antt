-- How a condition is printed: its text, and what is given for the placeholders in it (this project's own).
use Rattle.std.specs.Prelude.{ℕ, ◌+◌, Bool, true, false, List, [], ◌∷◌, ◌++◌, map, fold, codes, if◌then◌else◌}
use Rattle.std.specs.Fmt.{decimal}
use Rattle.std.specs.List.{enumerate_from}
use Rattle.std.specs.Ordering.{nat_cmp}
use Rattle.std.specs.Cmp.Lexicographic.{slice_cmp}
use Rattle.std.specs.BTreeMap.{insert_entry}
use Rattle.dbe_values.specs.declared.value.AttrValue.{AttrValue}
use Rattle.dbe_tokens.specs.declared.token.Span.{Span}
use Rattle.dbe_tokens.specs.declared.token.Token.{Token}
use Rattle.dbe_tokens.specs.declared.token.Token.TheVariants as t
use Rattle.dbe_tokens.specs.declared.token.Op.{Op}
use Rattle.dbe_tokens.specs.declared.token.Op.TheVariants.{Eq, Ne, Lt, Le, Gt, Ge}
use Rattle.dbe_tokens.specs.declared.token.Name.TheVariants.{Placeholder}
use Rattle.dbe_tokens.specs.declared.token.Operand.TheVariants as to
use Rattle.dbe_tokens.specs.declared.token.Operand.{Operand as TokenOperand}
use Rattle.dbe_grammar.specs.Form.{Form, Forms}
use Rattle.dbe_grammar.specs.Form as f
use Rattle.dbe_grammar.specs.Printed.{printed}
use Rattle.dbe_cond.specs.Condition.{Condition, Conditions, compare, between, within, begins, exists, lacks, not, and}
use Rattle.dbe_cond.specs.Condition.{or, none, some}
use Rattle.dbe_cond.specs.Names.{names_of}
use Rattle.dbe_cond.specs.Values.{values_of}
use Rattle.dbe_cond.specs.declared.operand.Operand.{Operand}
use Rattle.dbe_cond.specs.declared.operand.Operand.TheVariants.{Name, Value}

-- the placeholder of a number: `#` or `:`, and the number's digits
abbrev pub numbered : List ℕ → ℕ → List ℕ
numbered mark n = mark ++ decimal n

-- A placeholder that stands nowhere yet.
abbrev pub nowhere : Span
nowhere = record { start = 0; end = 0 }

abbrev pub operand_shape : Operand → TokenOperand
operand_shape (Name name) = to.Name (Placeholder nowhere)
operand_shape (Value v) = to.Value nowhere

-- the condition with a placeholder for each name and value
abbrev mutual
  pub shape_of : Condition → Form
  shape_of (compare left op right) = f.compare (operand_shape left) op (operand_shape right)
  shape_of (between value low high) = f.between (operand_shape value) (operand_shape low) (operand_shape high)
  shape_of (within value list) = f.within (operand_shape value) (map operand_shape list)
  shape_of (begins name front) = f.begins (Placeholder nowhere) (operand_shape front)
  shape_of (exists name) = f.exists (Placeholder nowhere)
  shape_of (lacks name) = f.lacks (Placeholder nowhere)
  shape_of (not c) = f.not (shape_of c)
  shape_of (and cs) = f.and (all_shapes cs)
  shape_of (or cs) = f.or (all_shapes cs)

  pub all_shapes : Conditions → Forms
  all_shapes none = f.none
  all_shapes (some c cs) = f.some (shape_of c) (all_shapes cs)

abbrev pub op_text : Op → List ℕ
op_text Eq = codes "="
op_text Ne = codes "<>"
op_text Lt = codes "<"
op_text Le = codes "<="
op_text Gt = codes ">"
op_text Ge = codes ">="

-- a token, where so many names and so many values stand before it
abbrev pub token_text : ℕ → ℕ → Token → List ℕ
token_text names values (t.Compare op) = op_text op
token_text names values t.Open = codes "("
token_text names values t.Close = codes ")"
token_text names values t.Comma = codes ","
token_text names values t.Or = codes "OR"
token_text names values t.And = codes "AND"
token_text names values t.Not = codes "NOT"
token_text names values t.Between = codes "BETWEEN"
token_text names values t.In = codes "IN"
token_text names values t.Exists = codes "attribute_exists"
token_text names values t.NotExists = codes "attribute_not_exists"
token_text names values t.BeginsWith = codes "begins_with"
token_text names values (t.Operand (to.Name name)) = numbered (codes "#") names
token_text names values (t.Operand (to.Value span)) = numbered (codes ":") values

abbrev pub one_if_name : Token → ℕ
one_if_name (t.Operand (to.Name name)) = 1
one_if_name token = 0

abbrev pub one_if_value : Token → ℕ
one_if_value (t.Operand (to.Value span)) = 1
one_if_value token = 0

-- nothing stands behind a function word and an opening parenthesis
abbrev pub has_gap_behind : Token → Bool
has_gap_behind t.Open = false
has_gap_behind t.Exists = false
has_gap_behind t.NotExists = false
has_gap_behind t.BeginsWith = false
has_gap_behind token = true

-- nothing stands before a closing parenthesis and a comma
abbrev pub has_gap_before : Token → Bool
has_gap_before t.Close = false
has_gap_before t.Comma = false
has_gap_before token = true

-- what stands before a token: one space, where what is before it has a gap behind it and the token has one before it
abbrev pub gap : Bool → Token → List ℕ
gap false token = []
gap true token = if has_gap_before token then codes " " else []

-- Tokens with their gaps, each placeholder with the next number. So many names and so many values stand before them,
-- and
-- what stands before them has a gap behind it or has none.
abbrev pub tokens_text : ℕ → ℕ → Bool → List Token → List ℕ
tokens_text names values behind [] = []
tokens_text names values behind (token ∷ tokens) =
    gap behind token ++ (token_text names values token ++ tokens_text (names + one_if_name token)
    (values + one_if_value token) (has_gap_behind token) tokens)

-- the text of a condition
abbrev pub printed_text : Condition → List ℕ
printed_text c = tokens_text 0 0 false (printed (shape_of c) [])

-- each of these at the placeholder of its place, in order of the placeholders' bytes
abbrev pub by_placeholder : {X : Type 0} → List ℕ → List X → List (List ℕ × X)
by_placeholder mark found = fold (λ entries e. insert_entry (slice_cmp nat_cmp) entries (numbered mark e.0) e.1) []
    (enumerate_from 0 found)

-- the names that are given for the placeholders in the text
abbrev pub printed_names : Condition → List (List ℕ × List ℕ)
printed_names c = by_placeholder (codes "#") (names_of c)

-- the values that are given for the placeholders in the text
abbrev pub printed_values : Condition → List (List ℕ × AttrValue)
printed_values c = by_placeholder (codes ":") (values_of c)
