-- The lines of bytes (this project's own). A newline is the byte 10.
use Rattle.std.specs.Prelude.{ℕ, ◌≡◌, ◌≢◌, ◌==◌, ◌<◌, ◌≤◌, List, [], ◌∷◌, if◌then◌else◌, length, slice_index, EachIndex}

-- b at the front of the first line
abbrev pub onto : ℕ → List (List ℕ) → List (List ℕ)
onto b [] = (b ∷ []) ∷ []
onto b (line ∷ lines) = (b ∷ line) ∷ lines

-- The pieces that newlines end. A last piece without one is a line, and an empty one is none.
abbrev pub lines_of : List ℕ → List (List ℕ)
lines_of [] = []
lines_of (b ∷ bytes) = if b == 10 then [] ∷ lines_of bytes else onto b (lines_of bytes)

-- b at the front of the first line, where there is one
abbrev pub onto_first : ℕ → List (List ℕ) → List (List ℕ)
onto_first b [] = []
onto_first b (line ∷ lines) = (b ∷ line) ∷ lines

-- The pieces that newlines end, and no last piece without one.
abbrev pub ended_lines : List ℕ → List (List ℕ)
ended_lines [] = []
ended_lines (b ∷ bytes) = if b == 10 then [] ∷ ended_lines bytes else onto_first b (ended_lines bytes)

-- the bytes before the first newline
abbrev pub first_piece : List ℕ → List ℕ
first_piece [] = []
first_piece (b ∷ bytes) = if b == 10 then [] else b ∷ first_piece bytes

-- b is not among the bytes
abbrev pub HasNone : ℕ → List ℕ → Type 0
HasNone b bytes = EachIndex bytes (λ k. slice_index bytes k ≢ b)

-- Of bytes the first `most` lie within the reader's total. The line at their front has more than `limit` bytes within
-- them.
abbrev pub IsTooLong : ℕ → ℕ → List ℕ → Type 0
IsTooLong limit most bytes = (limit < length (first_piece bytes)) × (limit < most)

-- That line is not too long, does not end within the first `most` bytes, and more bytes follow them.
pub record IsTooMuch (limit most : ℕ) (bytes : List ℕ) : Type 0 where
  pub not_too_long : ¬ IsTooLong limit most bytes
  pub no_end : most ≤ length (first_piece bytes)
  pub more : most < length bytes

-- the last byte, b where there is no other
abbrev pub last_byte : ℕ → List ℕ → ℕ
last_byte b [] = b
last_byte b (c ∷ bytes) = last_byte c bytes

-- bytes are empty, or end with a newline
abbrev pub IsWhole : List ℕ → Type 0
IsWhole [] = Unit {0}
IsWhole (b ∷ bytes) = last_byte b bytes ≡ 10
