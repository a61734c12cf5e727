-- The texts of numbers, this project's own grammar of the numbers that DynamoDB takes as text:
-- each form is a tree, a printer from the tree to its bytes, and a fact that says which trees are valid.
use Rattle.std.specs.Prelude.{◌≡◌, ℕ, ◌+◌, ◌-◌, ◌*◌, ◌<◌, Bool, true, false, ◌&&◌, List, [], ◌∷◌, ◌++◌, length}
use Rattle.std.specs.Prelude.{reverse, if◌then◌else◌, ◌==◌, nat_lt, nat_le, Result, Ok, Err}
use Rattle.std.specs.Str.{all_ascii_digits}
use Rattle.dbe_num.specs.Decimal.{Decimal, zero_number}
use Rattle.dbe_num.specs.declared.number_fault.NumberFault.{NumberFault}
use Rattle.dbe_num.specs.declared.number_fault.NumberFault.TheVariants.{TooManyDigits, OutOfRange}

-- nothing, + or -
pub data Sign : Type 0 where
  unmarked plus minus : Sign

abbrev pub sign_text : Sign → List ℕ
sign_text unmarked = []
sign_text plus = 43 ∷ []
sign_text minus = 45 ∷ []

abbrev pub is_minus : Sign → Bool
is_minus unmarked = false
is_minus plus = false
is_minus minus = true

-- nothing, or a point and the digits after it
pub data Fraction : Type 0 where
  no_point : Fraction
  point : List ℕ → Fraction

abbrev pub fraction_text : Fraction → List ℕ
fraction_text no_point = []
fraction_text (point digits) = 46 ∷ digits

abbrev pub fraction_digits : Fraction → List ℕ
fraction_digits no_point = []
fraction_digits (point digits) = digits

-- nothing, or E (where the flag is true) or e, a sign and digits
pub data Power : Type 0 where
  no_power : Power
  power : Bool → Sign → List ℕ → Power

abbrev pub power_text : Power → List ℕ
power_text no_power = []
power_text (power upper sign digits) = (if upper then 69 else 101) ∷ (sign_text sign ++ digits)

-- an exponent has digits, and nothing else after its sign
abbrev pub IsPower : Power → Type 0
IsPower no_power = Unit {0}
IsPower (power upper sign digits) = (all_ascii_digits digits ≡ true) × (0 < length digits)

-- number = sign digits [ "." digits ] [ "e" sign digits ]
pub record Numeral : Type 0 where
  pub sign : Sign
  pub whole : List ℕ
  pub fraction : Fraction
  pub exponent : Power

abbrev pub numeral_text : Numeral → List ℕ
numeral_text t = sign_text t.sign ++ (t.whole ++ (fraction_text t.fraction ++ power_text t.exponent))

-- there is a digit before or after the point
pub record IsNumeral (t : Numeral) : Type 0 where
  pub whole : all_ascii_digits t.whole ≡ true
  pub fraction : all_ascii_digits (fraction_digits t.fraction) ≡ true
  pub a_digit : 0 < length t.whole + length (fraction_digits t.fraction)
  pub exponent : IsPower t.exponent

-- the digits from the first that is not 0
abbrev pub without_front_zeros : List ℕ → List ℕ
without_front_zeros [] = []
without_front_zeros (c ∷ cs) = if c == 48 then without_front_zeros cs else c ∷ cs

-- the digits up to the last that is not 0
abbrev pub without_end_zeros : List ℕ → List ℕ
without_end_zeros cs = reverse (without_front_zeros (reverse cs))

-- the significant digits
abbrev pub significant : List ℕ → List ℕ
significant cs = without_end_zeros (without_front_zeros cs)

-- the whole number that digits are, read on from n
abbrev pub whole_number_after : ℕ → List ℕ → ℕ
whole_number_after n [] = n
whole_number_after n (c ∷ cs) = whole_number_after (n * 10 + (c - 48)) cs

abbrev pub whole_number : List ℕ → ℕ
whole_number cs = whole_number_after 0 cs

-- the powers of ten that an exponent raises a number by, and lowers it by
abbrev pub raised_by : Power → ℕ
raised_by no_power = 0
raised_by (power upper sign digits) = if is_minus sign then 0 else whole_number digits

abbrev pub lowered_by : Power → ℕ
lowered_by no_power = 0
lowered_by (power upper sign digits) = if is_minus sign then whole_number digits else 0

-- whether the first of n digits stands at a power of ten from -130 to 125, where the last one stands at
-- raised - lowered
abbrev pub is_in_range : ℕ → ℕ → ℕ → Bool
is_in_range n raised lowered = nat_le lowered (raised + n + 129) && nat_le (raised + n) (lowered + 126)

-- the number with these significant digits, of which the last one stands at raised - lowered
abbrev pub number_of_significant : Bool → List ℕ → ℕ → ℕ → Result Decimal NumberFault
number_of_significant negative [] raised lowered = Ok zero_number
number_of_significant negative (c ∷ cs) raised lowered =
    if nat_lt 38 (length (c ∷ cs)) then Err TooManyDigits
    else if is_in_range (length (c ∷ cs)) raised lowered then
    Ok (record { negative = negative; digits = whole_number (c ∷ cs); place = raised + 167 - lowered })
    else Err OutOfRange

-- the number with these digits, of which the last one stands at raised - lowered
abbrev pub number_of_digits : Bool → List ℕ → ℕ → ℕ → Result Decimal NumberFault
number_of_digits negative cs raised lowered =
    let idle = length (without_front_zeros cs) - length (significant cs) in
    number_of_significant negative (significant cs) (raised + idle) lowered

-- the number of a numeral: its digits, moved behind the point and by the exponent
abbrev pub numeral_number : Numeral → Result Decimal NumberFault
numeral_number t =
    let after_point = fraction_digits t.fraction in
    number_of_digits (is_minus t.sign) (t.whole ++ after_point) (raised_by t.exponent) (lowered_by t.exponent + length
    after_point)
