-- The exit codes of the program (this project's own).
use Rattle.std.specs.Prelude.{ℕ}
use Rattle.dbe_serve.specs.declared.status.Status.{Status}
use Rattle.dbe_serve.specs.declared.status.Status.TheVariants as s

-- the exit code of a status
abbrev pub code_of : Status → ℕ
code_of s.Done = 0
code_of s.Arguments = 2
code_of (s.Config fault) = 3
code_of s.Read = 4
code_of s.LineTooLong = 4
code_of s.ScriptTooLong = 4
code_of s.Write = 5
code_of s.Table = 6
code_of s.Dice = 9
code_of s.Memory = 10
