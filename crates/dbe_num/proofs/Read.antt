-- What was read is normal.
use Rattle.std.proofs.Common.{◌≡◌, ℕ, ◌+◌, ◌-◌, Bool, true, false, ◌&&◌, nat_lt, nat_le, ltb-false, leb-true, List}
use Rattle.std.proofs.Common.{[], ◌∷◌, ◌++◌, length, Option, Some, None, Ok, refl, subst, arith}
use Rattle.std.specs.Str.{all_ascii_digits}
use Rattle.dbe_num.specs.Decimal.{Decimal, IsNormal, zero_number}
use Rattle.dbe_num.specs.Numeral.{Numeral, IsNumeral, fraction_digits, is_minus, raised_by, lowered_by, is_in_range}
use Rattle.dbe_num.specs.Numeral.{without_front_zeros, without_end_zeros, significant, whole_number}
use Rattle.dbe_num.specs.Numeral.{number_of_significant, number_of_digits, numeral_number}
use Rattle.dbe_num.specs.Reading.{numeral_of, number_of, number_of_option}
use Rattle.dbe_num.proofs.Significant.{significant_is_normal, digits_joined, digits_without_front, digits_without_end}
use Rattle.dbe_num.proofs.Significant.{significant_front, without_front_zeros_twice, without_end_zeros_twice}
use Rattle.dbe_num.proofs.Grammar.{numeral_split}

zero_is_normal : IsNormal zero_number
zero_is_normal = record {
  few = omega arith;
  one_zero = λ _. refl;
  no_idle_zero = λ h. absurd (omega arith);
  not_small = λ h. absurd (omega arith);
  not_large = λ h. absurd (omega arith);
}

both_are : (a b : Bool) → a && b ≡ true → (a ≡ true) × (b ≡ true)
both_are true b h = (refl, h)
both_are false b h = absurd (cc)

module _ (negative : Bool) (c : ℕ) (cs : List ℕ) (raised lowered : ℕ) (d : Decimal) (given : number_of_significant
    negative (c ∷ cs) raised lowered ≡ Ok d) (digits : all_ascii_digits (c ∷ cs) ≡ true) (front : without_front_zeros
    (c ∷ cs) ≡ c ∷ cs) (end : without_end_zeros (c ∷ cs) ≡ c ∷ cs) where
  by_tests : (many ranged : Bool) → nat_lt 38 (length (c ∷ cs)) ≡ many →
      is_in_range (length (c ∷ cs)) raised lowered ≡ ranged → IsNormal d
  by_tests true ranged e f = (let k = rw e at given in absurd (cc))
  by_tests false false e f = (let k = rw (e, f) at given in absurd (cc))
  by_tests false true e f =
      let k = rw (e, f) at given in
      let is : record { negative = negative; digits = whole_number (c ∷ cs); place = raised + 167 - lowered } ≡ d =
      cc in
      let both = both_are (nat_le lowered (raised + length (c ∷ cs) + 129)) (nat_le (raised + length (c ∷ cs))
      (lowered + 126)) f in
      subst (λ x. IsNormal x) is (significant_is_normal negative (c ∷ cs) (whole_number (c ∷ cs)) raised lowered refl
      digits front end (omega arith) (ltb-false _ _ e) (leb-true _ _ both.0) (leb-true _ _ both.1))

significant_normal : (negative : Bool) (cs : List ℕ) (raised lowered : ℕ) (d : Decimal) →
    number_of_significant negative cs raised lowered ≡ Ok d → all_ascii_digits cs ≡ true →
    without_front_zeros cs ≡ cs → without_end_zeros cs ≡ cs → IsNormal d
significant_normal negative [] raised lowered d h digits front end = (let e : zero_number ≡ d = cc in
    subst (λ x. IsNormal x) e zero_is_normal)
significant_normal negative (c ∷ cs) raised lowered d h digits front end =
    by_tests negative c cs raised lowered d h digits front end (nat_lt 38 (length (c ∷ cs)))
    (is_in_range (length (c ∷ cs)) raised lowered) refl refl

digits_normal : (negative : Bool) (cs : List ℕ) (raised lowered : ℕ) (d : Decimal) →
    number_of_digits negative cs raised lowered ≡ Ok d → all_ascii_digits cs ≡ true → IsNormal d
digits_normal negative cs raised lowered d h digits =
    significant_normal negative (significant cs) (raised + (length (without_front_zeros cs) - length
    (significant cs))) lowered d h (digits_without_end (without_front_zeros cs) (digits_without_front cs digits))
    (significant_front (without_front_zeros cs) (without_front_zeros_twice cs)) (without_end_zeros_twice
    (without_front_zeros cs))

numeral_normal : (t : Numeral) (d : Decimal) → IsNumeral t → numeral_number t ≡ Ok d → IsNormal d
numeral_normal t d h e =
    digits_normal (is_minus t.sign) (t.whole ++ fraction_digits t.fraction) (raised_by t.exponent)
    (lowered_by t.exponent + length (fraction_digits t.fraction)) d e
    (digits_joined t.whole (fraction_digits t.fraction) h.whole h.fraction)

option_normal : (o : Option Numeral) (d : Decimal) → ((t : Numeral) → o ≡ Some t → IsNumeral t) →
    number_of_option o ≡ Ok d → IsNormal d
option_normal None d h e = absurd (cc)
option_normal (Some t) d h e = numeral_normal t d (h t refl) e

pub read_is_normal : (text : List ℕ) (d : Decimal) → number_of text ≡ Ok d → IsNormal d
unfolding number_of
read_is_normal text d h = option_normal (numeral_of text) d (λ t e. (numeral_split text t e).0) h
