-- The front of a text, as the steps of the cutting find it.
use Rattle.std.specs.Prelude.{◌≡◌, ℕ, ◌+◌, true, false, List, [], ◌∷◌, ◌++◌, length, Some, None, ◌≢◌}
use Rattle.std.specs.List.{list_all}
use Rattle.dbe_tokens.specs.declared.token.Token.{Token}
use Rattle.dbe_tokens.specs.declared.token.Span.{Span}
use Rattle.dbe_tokens.specs.Token.{is_part, are_parts, signs}
use Rattle.dbe_tokens.specs.Text.{IsLongest}

-- no part of a word stands at the front
abbrev pub EndsParts : List ℕ → Type 0
EndsParts [] = Unit {0}
EndsParts (b ∷ bytes) = is_part b ≡ false

-- all parts at the front, and what follows them
pub record IsSplit (bytes front back : List ℕ) : Type 0 where
  pub whole : bytes ≡ front ++ back
  pub parts : list_all is_part front ≡ true
  pub ends : EndsParts back

-- what follows `#` or `:`
pub record IsTail (start : ℕ) (bytes : List ℕ) (span : Span) (back : List ℕ) : Type 0 where
  pub tail : List ℕ
  pub whole : bytes ≡ tail ++ back
  pub parts : are_parts tail ≡ true
  pub ends : EndsParts back
  pub place : span ≡ record { start = start; end = start + (length tail + 1) }

-- the longest of the comparisons, parentheses and the comma
pub record IsSign (first : ℕ) (others : List ℕ) (token : Token) (back : List ℕ) : Type 0 where
  pub rest : List ℕ
  pub whole : others ≡ rest ++ back
  pub spelled : signs first rest ≡ Some token
  pub longest : (more last : List ℕ) → back ≡ more ++ last → more ≢ [] → signs first (rest ++ more) ≡ None

abbrev pub BeginsNoSign : ℕ → List ℕ → Type 0
BeginsNoSign first others = (rest back : List ℕ) → others ≡ rest ++ back → signs first rest ≡ None

pub record IsFront (start : ℕ) (text : List ℕ) (token : Token) (back : List ℕ) : Type 0 where
  pub front : List ℕ
  pub longest : IsLongest start text token front back
