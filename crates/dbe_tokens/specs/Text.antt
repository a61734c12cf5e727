-- A text cut into tokens (this project's own).
use Rattle.std.specs.Prelude.{◌≡◌, ◌≢◌, ℕ, ◌+◌, ◌-◌, ◌==◌, ◌||◌, IsTrue, true, false, List, [], ◌∷◌, ◌++◌, length}
use Rattle.std.specs.Prelude.{take, drop, Some, None, Result, Ok, Err}
use Rattle.std.specs.List.{list_all}
use Rattle.dbe_tokens.specs.declared.token.Token.{Token}
use Rattle.dbe_tokens.specs.declared.token.Span.{Span}
use Rattle.dbe_tokens.specs.declared.cutting.Tokens.{Tokens}
use Rattle.dbe_tokens.specs.declared.cutting.TokenFault.{TokenFault}
use Rattle.dbe_tokens.specs.declared.cutting.TokenFault.TheVariants as f
use Rattle.dbe_tokens.specs.Token.{is_space, token_of}

-- no front of the text spells a token
abbrev pub BeginsNone : ℕ → List ℕ → Type 0
BeginsNone start text = (front back : List ℕ) → text ≡ front ++ back → token_of start front ≡ None

-- The text begins with this token at `front`, and no longer front spells one.
pub record IsLongest (start : ℕ) (text : List ℕ) (token : Token) (front back : List ℕ) : Type 0 where
  pub whole : text ≡ front ++ back
  pub spelled : token_of start front ≡ Some token
  pub longest : (more others : List ℕ) → back ≡ more ++ others → more ≢ [] → token_of start (front ++ more) ≡ None

-- Spaces stand at the front of the text, whose place is `at`, up to `back`, whose place is `end`.
pub record IsGap (at : ℕ) (text : List ℕ) (end : ℕ) (back : List ℕ) : Type 0 where
  pub gap : List ℕ
  pub whole : text ≡ gap ++ back
  pub spaces : list_all is_space gap ≡ true
  pub place : end ≡ at + length gap

-- The text, whose place is `at`, is these tokens at these starts with spaces between them, up to `back`, whose place
-- is `end`.
abbrev pub AreTokens : ℕ → List ℕ → List Token → List ℕ → ℕ → List ℕ → Type 0
AreTokens at text [] [] end back = IsGap at text end back
AreTokens at text [] (start ∷ starts) end back = ⊥
AreTokens at text (token ∷ tokens) [] end back = ⊥
AreTokens at text (token ∷ tokens) (start ∷ starts) end back =
    (here front next : List ℕ) × IsGap at text start here × IsLongest start here token front next ×
    AreTokens (start + length front) next tokens starts end back

-- the end, a space, a parenthesis or a comma: no token goes on with it
abbrev pub EndsToken : List ℕ → Type 0
EndsToken [] = Unit {0}
EndsToken (b ∷ bytes) = IsTrue (b == 32 || b == 40 || b == 41 || b == 44)

-- the bytes of a range, as far as the text goes
abbrev pub bytes_in : List ℕ → Span → List ℕ
bytes_in text span = take (span.end - span.start) (drop span.start text)

-- the whole text
abbrev pub IsCut : List ℕ → List Token → List ℕ → Type 0
IsCut text tokens starts = AreTokens 0 text tokens starts (length text) []

-- a byte that is no space, and at which no token begins
abbrev pub IsBad : ℕ → List ℕ → Type 0
IsBad at [] = ⊥
IsBad at (b ∷ bytes) = (is_space b ≡ false) × BeginsNone at (b ∷ bytes)

-- the first byte at which no token begins
pub record IsBadAt (text : List ℕ) (at : ℕ) : Type 0 where
  pub tokens : List Token
  pub starts : List ℕ
  pub back : List ℕ
  pub before : AreTokens 0 text tokens starts at back
  pub bad : IsBad at back

abbrev pub Refuses : List ℕ → TokenFault → Type 0
Refuses text f.Memory = Unit {0}
Refuses text (f.BadToken at) = IsBadAt text at

-- these tokens, unless memory ran out
abbrev pub Gives : Result Tokens TokenFault → List Token → List ℕ → Type 0
Gives (Ok found) tokens starts = (found.tokens.items ≡ tokens) × (found.starts.items ≡ starts)
Gives (Err f.Memory) tokens starts = Unit {0}
Gives (Err (f.BadToken at)) tokens starts = ⊥

-- this place, unless memory ran out
abbrev pub GivesBad : Result Tokens TokenFault → ℕ → Type 0
GivesBad (Ok found) at = ⊥
GivesBad (Err f.Memory) at = Unit {0}
GivesBad (Err (f.BadToken place)) at = place ≡ at
