-- Powers of ten and their places.
use Rattle.std.proofs.Common.{◌≡◌, ℤ, pos, negsuc, ◌+ℤ◌, ◌-ℤ◌, ◌≤ℤ◌, refl, arith}
use Rattle.std.proofs.lemmas.Int.{ints}
use Rattle.dbe_num.specs.Decimal.{place_of}

pub place_of_is : (z : ℤ) → negsuc 166 ≤ℤ z → pos (place_of z) ≡ z +ℤ pos 167
place_of_is (pos n) h = refl
place_of_is (negsuc n) h = omega (arith, ints)

pub place_of_restored : (z : ℤ) → negsuc 166 ≤ℤ z → pos (place_of z) -ℤ pos 167 ≡ z
place_of_restored z h = omega (arith, ints, place_of_is z h)
