-- What a fill takes of known random bytes (this project's own).
use Rattle.std.specs.Prelude.{List, ℕ, Result, MatchResult}
use Rattle.std.specs.declared.option.Option.{Option}
use Rattle.std.specs.Io.KnownBytes.{Consumes, Keeps}

-- A fill that was Ok moved the next bytes to the whole of `out`. One that failed left the known bytes as they were.
abbrev pub FillConsumes : {T E : Type 0} → Option (List ℕ) → Option (List ℕ) → Result T E → List ℕ → Type 0
FillConsumes old new result out = MatchResult result (λ _. Consumes old new out) (λ _. Keeps old new)
