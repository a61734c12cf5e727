-- Which object a status blames, and how the counts of two objects move (this project's own).
use Rattle.std.specs.Prelude.{◌⊎◌, ℕ, Bool, true, false, Result, Ok, Err}
use Rattle.dbe_io.specs.Causes.{HasCause}
use Rattle.dbe_serve.specs.declared.status.Status.{Status}
use Rattle.dbe_serve.specs.declared.status.Status.TheVariants as s

-- whether a status says that a read failed
abbrev pub is_read : Status → Bool
is_read s.Read = true
is_read _ = false

-- whether a status says that a write failed, or took nothing
abbrev pub is_write : Status → Bool
is_write s.Write = true
is_write _ = false

-- whether a status says that the table failed
abbrev pub is_table : Status → Bool
is_table s.Table = true
is_table _ = false

-- whether a status says that the dice failed
abbrev pub is_dice : Status → Bool
is_dice s.Dice = true
is_dice _ = false

-- whether a call failed with such a status
abbrev pub fails_with : {T : Type 0} → (Status → Bool) → Result T Status → Bool
fails_with is (Ok x) = false
fails_with is (Err status) = is status

-- How two counts of failures move: where a call failed exactly one of them rises, and else both stay as they were.
abbrev pub OneHasCause : Bool → ℕ → ℕ → ℕ → ℕ → Type 0
OneHasCause true before now before' now' = (HasCause true before now × HasCause false before' now') ⊎
    (HasCause false before now × HasCause true before' now')
OneHasCause false before now before' now' = HasCause false before now × HasCause false before' now'
