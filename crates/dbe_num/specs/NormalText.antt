-- The one text that a number is written as, this project's own: plain decimals without idle zeros.
use Rattle.std.specs.Prelude.{ℕ, ◌+◌, ◌-◌, List, [], ◌∷◌, ◌++◌, length, take, drop, replicate, decimal, if◌then◌else◌}
use Rattle.dbe_num.specs.Decimal.{Decimal}
use Rattle.dbe_num.specs.Numeral.{unmarked, minus, Fraction, no_point, point, Numeral, numeral_text, no_power}

-- how many digits stand behind the point
abbrev pub fraction_length : Decimal → ℕ
fraction_length d = 167 - d.place

-- the digits down to the place of the ones at least
abbrev pub digits_to_ones : Decimal → List ℕ
digits_to_ones d = decimal d.digits ++ replicate (d.place - 167) 48

-- the same with zeros in front, so that one digit at least stands before the point
abbrev pub all_digits : Decimal → List ℕ
all_digits d =
    replicate (fraction_length d + 1 - length (digits_to_ones d)) 48 ++ digits_to_ones d

-- how many digits stand before the point
abbrev pub whole_length : Decimal → ℕ
whole_length d = length (all_digits d) - fraction_length d

-- a point and the digits after it, where there are any
abbrev pub fraction_with : List ℕ → Fraction
fraction_with [] = no_point
fraction_with (c ∷ cs) = point (c ∷ cs)

-- an optional -, the whole part, and a point with the digits after it, where there are any
unfoldable pub normal_numeral : Decimal → Numeral
normal_numeral d = record {
  sign = if d.negative then minus else unmarked;
  whole = take (whole_length d) (all_digits d);
  fraction = fraction_with (drop (whole_length d) (all_digits d));
  exponent = no_power;
}

unfoldable pub normal_text : Decimal → List ℕ
normal_text d = numeral_text (normal_numeral d)
