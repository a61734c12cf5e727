-- Places in a text (this project's own). They count Unicode scalar values, from the end where they are negative.
use Rattle.std.specs.Prelude.{ℕ, suc, ◌-◌, min, ℤ, pos, negsuc}

-- a place in what has so many, and never outside of it
abbrev pub place_in : ℕ → ℤ → ℕ
place_in len (pos n) = min n len
place_in len (negsuc n) = len - suc n
