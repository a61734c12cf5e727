-- The steps of a virtual field, as functions on the Unicode scalar values of a text (this project's own).
use Rattle.std.specs.Prelude.{ℕ, suc, ◌-◌, ◌==◌, ℤ, pos, negsuc, List, [], ◌∷◌, ◌++◌, length, map, reverse, take}
use Rattle.std.specs.Prelude.{drop, slice_get, slice_range, chars, Option, Some, option_and_then}
use Rattle.std.specs.Char.{to_ascii_uppercase, to_ascii_lowercase}
use Rattle.std.specs.List.{slice_split, join_with_byte}
use Rattle.dbe_config.specs.declared.text_step.TextStep.{TextStep}
use Rattle.dbe_config.specs.declared.text_step.TextStep.TheVariants as step
use Rattle.dbe_fields.specs.Places.{place_in}

-- the last n, or all but the first n where it is -n
abbrev pub last_of : ℤ → List ℕ → List ℕ
last_of (pos n) cs = drop (length cs - n) cs
last_of (negsuc n) cs = drop (suc n) cs

-- the elements from one place up to before another; none where the second is not behind the first
abbrev pub part_of : {A : Type 0} → ℤ → ℤ → List A → List A
part_of a b xs = slice_range xs (place_in (length xs) a) (place_in (length xs) b)

-- the text cut at each c
abbrev pub pieces : ℕ → List ℕ → List (List ℕ)
pieces c cs = slice_split (λ x. x == c) cs

-- the piece with a number, from the end where it is negative: -1 is the last
abbrev pub piece_at : ℤ → List (List ℕ) → Option (List ℕ)
piece_at (pos n) ps = slice_get ps n
piece_at (negsuc n) ps = slice_get (reverse ps) n

-- what one step makes of a text, if anything
abbrev pub stepped : TextStep → List ℕ → Option (List ℕ)
stepped step.Upper cs = Some (map to_ascii_uppercase cs)
stepped step.Lower cs = Some (map to_ascii_lowercase cs)
stepped (step.Insert t) cs = Some (cs ++ chars t)
stepped (step.Prefix n) cs = Some (take (place_in (length cs) n) cs)
stepped (step.Suffix n) cs = Some (last_of n cs)
stepped (step.Substring a b) cs = Some (part_of a b cs)
stepped (step.Segment c i) cs = piece_at i (pieces c cs)
stepped (step.Segments c a b) cs = Some (join_with_byte c (part_of a b (pieces c cs)))

-- one step after another
abbrev pub through : List TextStep → List ℕ → Option (List ℕ)
through [] cs = Some cs
through (s ∷ steps) cs = option_and_then (through steps) (stepped s cs)
