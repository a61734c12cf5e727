-- What a writer that may stop early leaves of the bytes that it was given (this project's own).
use Rattle.std.specs.Prelude.{ℕ, ◌≤◌, List, length, take, Result, MatchResult}
use Rattle.std.specs.declared.option.Option.{Option}
use Rattle.std.specs.Io.KnownBytes.{Appends}

-- known bytes grow by a front of these, which may be none or all of them
pub record AppendsPrefix (old new : Option (List ℕ)) (bytes : List ℕ) : Type 0 where
  pub count : ℕ
  pub within : count ≤ length bytes
  pub front : Appends old new (take count bytes)

-- A write that answered n took the first n bytes of the piece. One that failed took a front of it.
abbrev pub Takes : {E : Type 0} → Option (List ℕ) → Option (List ℕ) → Result ℕ E → List ℕ → Type 0
Takes old new result piece = MatchResult result (λ n. Appends old new (take n piece)) (λ _. AppendsPrefix old new piece)
