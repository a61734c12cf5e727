-- How deep a condition's tokens nest (this project's own).
use Rattle.std.specs.Prelude.{ℕ, ◌+◌, ◌-◌, ◌<◌, ◌⊎◌, Bool, true, false, List, [], ◌∷◌, take, count_by}
use Rattle.dbe_tokens.specs.declared.token.Token.{Token}
use Rattle.dbe_tokens.specs.declared.token.Token.TheVariants as t

-- How many parentheses stand open after a token, where n did before it. One that closes nothing closes nothing.
abbrev pub open_step : ℕ → Token → ℕ
open_step n t.Open = n + 1
open_step n t.Close = n - 1
open_step n _ = n

abbrev pub open_after : ℕ → List Token → ℕ
open_after n [] = n
open_after n (token ∷ tokens) = open_after (open_step n token) tokens

-- at some token more than 64 stand open
abbrev pub OpensTooMany : List Token → Type 0
OpensTooMany tokens = (k : ℕ) × (64 < open_after 0 (take k tokens))

abbrev pub is_not : Token → Bool
is_not t.Not = true
is_not _ = false

-- at some token more than 64 parentheses stand open, or there are more than 64 NOT
abbrev pub IsTooDeep : List Token → Type 0
IsTooDeep tokens = OpensTooMany tokens ⊎ (64 < count_by is_not tokens)
