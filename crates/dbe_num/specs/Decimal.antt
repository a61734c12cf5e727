-- Decimal numbers (Amazon DynamoDB Developer Guide, "Supported data types and naming rules", Number):
-- up to 38 digits, zero or from 10^-130 to below 10^126 in size. The normal form is this project's own.
use Rattle.std.specs.Prelude.{◌≡◌, ℕ, ◌+◌, ◌-◌, ◌*◌, ◌%◌, ◌^◌, ◌<◌, ◌≤◌, Bool, false, length, decimal, ℤ, pos, negsuc}
use Rattle.std.specs.Prelude.{neg_ℤ, if◌then◌else◌}
use Rattle.std.specs.Ordering.{int_cmp}
use Rattle.std.specs.declared.cmp.Ordering.{Ordering}

-- digits * 10^(place - 167), with its sign. Places are counted from the 167th behind the point, since
-- no number has a digit behind it: its leading digit stands at 10^-130 or higher, with 37 after it.
pub record Decimal : Type 0 where
  pub negative : Bool
  pub digits : ℕ
  pub place : ℕ

-- zero has one form
abbrev pub zero_number : Decimal
zero_number = record { negative = false; digits = 0; place = 167 }

-- how many digits a number is written with
abbrev pub digit_count : ℕ → ℕ
digit_count n = length (decimal n)

-- at most 38 digits without a zero at their end, and the leading digit from 10^-130 to 10^125
pub record IsNormal (d : Decimal) : Type 0 where
  pub few : d.digits < 10 ^ 38
  pub one_zero : d.digits ≡ 0 → d ≡ zero_number
  pub no_idle_zero : 0 < d.digits → 0 < d.digits % 10
  pub not_small : 0 < d.digits → 38 ≤ d.place + digit_count d.digits
  pub not_large : 0 < d.digits → d.place + digit_count d.digits ≤ 293

-- the number as a whole number of units of 10^-167
abbrev pub units : Decimal → ℤ
units d =
    if d.negative then neg_ℤ (pos (d.digits * 10 ^ d.place)) else pos (d.digits * 10 ^ d.place)

-- numbers are ordered by their values
abbrev pub number_order : Decimal → Decimal → Ordering
number_order a b = int_cmp (units a) (units b)

-- the place of a power of ten
abbrev pub place_of : ℤ → ℕ
place_of (pos n) = n + 167
place_of (negsuc n) = 166 - n
