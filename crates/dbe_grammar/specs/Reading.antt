-- What reading a condition answers (this project's own).
use Rattle.std.specs.Prelude.{◌≡◌, ℕ, ◌+◌, ◌<◌, ◌≤◌, List, ◌++◌, take, length, Result, Ok, Err}
use Rattle.dbe_tokens.specs.declared.token.Token.{Token}
use Rattle.dbe_grammar.specs.Form.{Form, form_of}
use Rattle.dbe_grammar.specs.declared.tree.Tree.{Tree}
use Rattle.dbe_grammar.specs.declared.fault.ParseFault.{ParseFault}
use Rattle.dbe_grammar.specs.declared.fault.ParseFault.TheVariants as f
use Rattle.dbe_grammar.specs.Grammar.{IsCond}

-- With some tokens after them, these are a condition.
pub record Begins (front : List Token) : Type 0 where
  pub missing : List Token
  pub found : Form
  pub whole : IsCond (front ++ missing) found

-- The tokens are no condition, those before this place begin one, and with the one at this place they begin none.
-- Where the place is the number of tokens, all of them begin one.
pub record IsMisfit (tokens : List Token) (at : ℕ) : Type 0 where
  pub none : (found : Form) → IsCond tokens found → ⊥
  pub within : at ≤ length tokens
  pub begins : Begins (take at tokens)
  pub fails : at < length tokens → Begins (take (at + 1) tokens) → ⊥

-- a fact on the place that a fault names
abbrev pub IfSyntax : ParseFault → (ℕ → Type 0) → Type 0
IfSyntax f.Memory P = Unit {0}
IfSyntax (f.Syntax at) P = P at

-- this condition, unless memory ran out
abbrev pub Gives : Result Tree ParseFault → Form → Type 0
Gives (Ok found) wanted = form_of found ≡ wanted
Gives (Err f.Memory) wanted = Unit {0}
Gives (Err (f.Syntax at)) wanted = ⊥

-- this place, unless memory ran out
abbrev pub Refuses : Result Tree ParseFault → ℕ → Type 0
Refuses (Ok found) at = ⊥
Refuses (Err f.Memory) at = Unit {0}
Refuses (Err (f.Syntax place)) at = place ≡ at
