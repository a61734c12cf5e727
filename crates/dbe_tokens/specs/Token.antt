-- The token that bytes spell (this project's own).
use Rattle.std.specs.Prelude.{ℕ, ◌+◌, ◌==◌, ◌&&◌, ◌||◌, if◌then◌else◌, Bool, false, List, [], ◌∷◌, map, length, codes}
use Rattle.std.specs.Prelude.{bytes_eq, Option, Some, None}
use Rattle.std.specs.List.{list_all}
use Rattle.std.specs.Char.{is_ascii_alphabetic, is_ascii_alphanumeric, to_ascii_lowercase}
use Rattle.dbe_tokens.specs.declared.token.Token.{Token}
use Rattle.dbe_tokens.specs.declared.token.Token.TheVariants as t
use Rattle.dbe_tokens.specs.declared.token.Op.TheVariants as op
use Rattle.dbe_tokens.specs.declared.token.Operand.TheVariants as operand
use Rattle.dbe_tokens.specs.declared.token.Name.TheVariants as name
use Rattle.dbe_tokens.specs.declared.token.Span.{Span}

-- space, tab, carriage return, line feed
abbrev pub is_space : ℕ → Bool
is_space b = b == 32 || b == 9 || b == 13 || b == 10

-- a letter of ASCII or `_`
abbrev pub begins_word : ℕ → Bool
begins_word b = is_ascii_alphabetic b || b == 95

-- a letter or digit of ASCII or `_`
abbrev pub is_part : ℕ → Bool
is_part b = is_ascii_alphanumeric b || b == 95

-- one or more parts
abbrev pub are_parts : List ℕ → Bool
are_parts [] = false
are_parts (b ∷ bytes) = is_part b && list_all is_part bytes

-- = < > ( ) ,
abbrev pub one_sign : ℕ → Option Token
one_sign b =
    if b == 61 then Some (t.Compare op.Eq)
    else (if b == 60 then Some (t.Compare op.Lt)
    else (if b == 62 then Some (t.Compare op.Gt)
    else (if b == 40 then Some t.Open
    else (if b == 41 then Some t.Close
    else (if b == 44 then Some t.Comma
    else None)))))

-- <> <= >=
abbrev pub two_signs : ℕ → ℕ → Option Token
two_signs b c =
    if b == 60 && c == 62 then Some (t.Compare op.Ne)
    else (if b == 60 && c == 61 then Some (t.Compare op.Le)
    else (if b == 62 && c == 61 then Some (t.Compare op.Ge)
    else None))

abbrev pub signs : ℕ → List ℕ → Option Token
signs b [] = one_sign b
signs b (c ∷ []) = two_signs b c
signs b (c ∷ d ∷ bytes) = None

-- in any case
abbrev pub is_keyword : List ℕ → List ℕ → Bool
is_keyword word keyword = bytes_eq (map to_ascii_lowercase word) (map to_ascii_lowercase keyword)

-- function words in their own case, and every other word is a name
unfoldable pub function_or_name : Span → List ℕ → Token
function_or_name span word =
    if bytes_eq word (codes "attribute_exists") then t.Exists
    else (if bytes_eq word (codes "attribute_not_exists") then t.NotExists
    else (if bytes_eq word (codes "begins_with") then t.BeginsWith
    else t.Operand (operand.Name (name.Word span))))

-- keywords, and every other word
unfoldable pub word_token : Span → List ℕ → Token
word_token span word =
    if is_keyword word (codes "OR") then t.Or
    else (if is_keyword word (codes "AND") then t.And
    else (if is_keyword word (codes "NOT") then t.Not
    else (if is_keyword word (codes "BETWEEN") then t.Between
    else (if is_keyword word (codes "IN") then t.In
    else function_or_name span word))))

-- the token that these bytes spell, all of them, from the place `start` of the text on
abbrev pub token_of : ℕ → List ℕ → Option Token
token_of start [] = None
token_of start (b ∷ bytes) =
    let span : Span = record { start = start; end = start + length (b ∷ bytes) } in
    if begins_word b then (if list_all is_part bytes then Some (word_token span (b ∷ bytes)) else None)
    else (if b == 35 then (if are_parts bytes then Some (t.Operand (operand.Name (name.Placeholder span))) else None)
    else (if b == 58 then (if are_parts bytes then Some (t.Operand (operand.Value span)) else None)
    else signs b bytes))
