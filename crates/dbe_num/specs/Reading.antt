-- The numeral that a text is, from left to right. `is_the_numeral` and `has_no_numeral` tie it to the grammar.
use Rattle.std.specs.Prelude.{ℕ, ◌+◌, Bool, ◌&&◌, ◌||◌, List, [], ◌∷◌, length, Option, Some, None, Result, Err}
use Rattle.std.specs.Prelude.{if◌then◌else◌, ◌==◌, nat_lt}
use Rattle.std.specs.Char.{is_ascii_digit}
use Rattle.dbe_num.specs.Decimal.{Decimal}
use Rattle.dbe_num.specs.Numeral.{Sign, unmarked, plus, minus, Fraction, no_point, point, fraction_digits, Power}
use Rattle.dbe_num.specs.Numeral.{no_power, power, Numeral, numeral_number}
use Rattle.dbe_num.specs.declared.number_fault.NumberFault.{NumberFault}
use Rattle.dbe_num.specs.declared.number_fault.NumberFault.TheVariants.{NotNumber}

-- the sign at the front, and what follows it
abbrev pub sign_at : List ℕ → Sign
sign_at [] = unmarked
sign_at (b ∷ bytes) = if b == 43 then plus else if b == 45 then minus else unmarked

abbrev pub after_sign : List ℕ → List ℕ
after_sign [] = []
after_sign (b ∷ bytes) = if b == 43 || b == 45 then bytes else b ∷ bytes

-- the digits at the front, and what follows them
abbrev pub digits_at : List ℕ → List ℕ
digits_at [] = []
digits_at (b ∷ bytes) = if is_ascii_digit b then b ∷ digits_at bytes else []

abbrev pub after_digits : List ℕ → List ℕ
after_digits [] = []
after_digits (b ∷ bytes) = if is_ascii_digit b then after_digits bytes else b ∷ bytes

-- the point at the front with its digits, and what follows them
abbrev pub fraction_at : List ℕ → Fraction
fraction_at [] = no_point
fraction_at (b ∷ bytes) = if b == 46 then point (digits_at bytes) else no_point

abbrev pub after_fraction : List ℕ → List ℕ
after_fraction [] = []
after_fraction (b ∷ bytes) = if b == 46 then after_digits bytes else b ∷ bytes

-- the exponent that the bytes are, or none where they are no exponent
abbrev pub power_after : Bool → List ℕ → Option Power
power_after upper bytes =
    let digits = digits_at (after_sign bytes) in
    if nat_lt 0 (length digits) && length (after_digits (after_sign bytes)) ==
    0 then Some (power upper (sign_at bytes) digits) else None

abbrev pub power_of : List ℕ → Option Power
power_of [] = Some no_power
power_of (b ∷ bytes) = if b == 101 || b == 69 then power_after (b == 69) bytes else None

-- a numeral with this exponent, where it has one and a digit
abbrev pub with_power : Sign → List ℕ → Fraction → Option Power → Option Numeral
with_power sign whole fraction None = None
with_power sign whole fraction (Some p) =
    if nat_lt 0 (length whole + length (fraction_digits fraction)) then Some (record {
      sign = sign;
      whole = whole;
      fraction = fraction;
      exponent = p;
    })
    else None

-- the numeral that a text is, or none
abbrev pub numeral_of : List ℕ → Option Numeral
numeral_of text =
    let body = after_sign text in
    let rest = after_digits body in
    with_power (sign_at text) (digits_at body) (fraction_at rest) (power_of (after_fraction rest))

-- the number of a numeral that may be missing
abbrev pub number_of_option : Option Numeral → Result Decimal NumberFault
number_of_option None = Err NotNumber
number_of_option (Some t) = numeral_number t

-- the number of a text, or why it has none
unfoldable pub number_of : List ℕ → Result Decimal NumberFault
number_of text = number_of_option (numeral_of text)
