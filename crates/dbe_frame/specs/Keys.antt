-- Steps of the context's writer; not part of what is promised.
-- What keeps a computed pair short.
use Rattle.std.specs.Prelude.{ℕ, ◌+◌, ◌≤◌, List, length}
use Rattle.dbe_num.specs.Decimal.{IsNormal}
use Rattle.dbe_values.specs.Val as v
use Rattle.dbe_values.specs.Val.{Val}
use Rattle.dbe_canon.specs.Canon.{canon_of}
use Rattle.dbe_frame.specs.Sizes.{most_named, most_counted}

abbrev pub IsShortName : List ℕ → Type 0
IsShortName name = length name ≤ most_named

-- a number is in its normal form
abbrev pub IsNormalNumber : Val → Type 0
IsNormalNumber (v.number d) = IsNormal d
IsNormalNumber _ = Unit {0}

-- with the two bytes of the type as long as a value of a pair may be
abbrev pub IsShortValue : Val → Type 0
IsShortValue value = 2 + length (canon_of value) ≤ most_counted
