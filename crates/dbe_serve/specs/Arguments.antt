-- The arguments of the program, and what filling a block with one gives (this project's own).
use Rattle.std.specs.Prelude.{◌≡◌, ◌⊎◌, ◌<◌, ◌≤◌, ℕ, List, length, take, Option, Some, None, Result, Ok, Err, IsUtf8}
use Rattle.std.specs.List.{All}
use Rattle.std.specs.declared.env.FillError.{FillError}
use Rattle.std.specs.declared.env.FillError.TheVariants as f

-- A block was filled with the argument of a place, where there is one.
abbrev pub IsFilledWith : Option (List ℕ) → Result ℕ FillError → List ℕ → Type 0
IsFilledWith None (Ok count) block = ⊥
IsFilledWith None (Err f.NotPresent) block = Unit {0}
IsFilledWith None (Err f.TooLong) block = ⊥
IsFilledWith (Some argument) (Ok count) block = take count block ≡ argument
IsFilledWith (Some argument) (Err f.NotPresent) block = ⊥
IsFilledWith (Some argument) (Err f.TooLong) block = length block < length argument

-- an argument that can be read: at most 64 bytes of UTF-8
pub record IsReadable (argument : List ℕ) : Type 0 where
  pub utf8 : IsUtf8 argument
  pub short : length argument ≤ 64

-- an argument that is no UTF-8, or has more than 64 bytes
abbrev pub IsUnreadable : List ℕ → Type 0
IsUnreadable argument = (¬ IsUtf8 argument) ⊎ (64 < length argument)

-- what was read is the told arguments in their order, and each of them can be read
pub record AreRead (told read : List (List ℕ)) : Type 0 where
  pub same : read ≡ told
  pub readable : All IsReadable told
