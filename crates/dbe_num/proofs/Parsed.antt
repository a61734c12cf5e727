-- The cases of a text that is read, and exponents past the bound that the code counts to.
use Rattle.std.proofs.Common.{◌≡◌, ℕ, ◌+◌, ◌-◌, ◌*◌, ◌^◌, ◌<◌, ◌≤◌, nat_lt, nat_le, min, Bool, true, false, ◌&&◌}
use Rattle.std.proofs.Common.{List, [], ◌∷◌, ◌++◌, length, Option, Some, None, option_map, Result, Err, refl, sym, ap}
use Rattle.std.proofs.Common.{◌∙◌, arith, ◌⊎◌, inl, inr, length-append}
use Rattle.std.proofs.lemmas.Bool.Decides.{nat_tests, eqb_tells}
use Rattle.std.specs.Char.{is_ascii_digit}
use Rattle.std.specs.Str.{all_ascii_digits}
use Rattle.dbe_num.specs.Decimal.{Decimal}
use Rattle.dbe_num.specs.Numeral.{fraction_digits, Power, no_power, power, is_minus, raised_by, lowered_by}
use Rattle.dbe_num.specs.Numeral.{is_in_range, significant, without_front_zeros, number_of_significant}
use Rattle.dbe_num.specs.Numeral.{number_of_digits}
use Rattle.dbe_num.specs.Reading.{sign_at, after_sign, digits_at, after_digits, fraction_at, after_fraction, power_of}
use Rattle.dbe_num.specs.Reading.{number_of}
use Rattle.dbe_num.specs.Shift.{shift_of}
use Rattle.dbe_num.specs.declared.numeral.Shift.{Shift}
use Rattle.dbe_num.specs.declared.number_fault.NumberFault.{NumberFault}
use Rattle.dbe_num.specs.declared.number_fault.NumberFault.TheVariants.{NotNumber}
use Rattle.dbe_num.proofs.Significant.{without_front_zeros_shorter, without_end_zeros_shorter, digits_joined}

-- ---- the exponent, and what the code has of it

pub power_missing : (o : Option Power) → None ≡ option_map shift_of o → o ≡ None
power_missing None h = refl
power_missing (Some p) h = absurd (cc)

pub power_there : (o : Option Power) (s : Shift) → Some s ≡ option_map shift_of o → (p : Power) × (o ≡ Some p) ×
    (s ≡ shift_of p)
power_there None s h = absurd (cc)
power_there (Some p) s h = (p, refl, cc)

one_way : (p : Power) → (raised_by p ≡ 0) ⊎ (lowered_by p ≡ 0)
one_way no_power = inl refl
one_way (power upper sign digits) = by_sign (is_minus sign) refl
  where
    by_sign : (b : Bool) → is_minus sign ≡ b → (raised_by (power upper sign digits) ≡ 0) ⊎
        (lowered_by (power upper sign digits) ≡ 0)
    by_sign true e = inl (rw e)
    by_sign false e = inr (rw e)

-- ---- past the bound

and_false : (a b : Bool) → b ≡ false → a && b ≡ false
and_false true b h = h
and_false false b h = refl

high : (n raised lowered : ℕ) → lowered + 126 < raised + n → is_in_range n raised lowered ≡ false
high n raised lowered h =
    let second : nat_le (raised + n) (lowered + 126) ≡ false = grind (arith, nat_tests) in
    and_false (nat_le lowered (raised + n + 129)) (nat_le (raised + n) (lowered + 126)) second

low : (n raised lowered : ℕ) → raised + n + 129 < lowered → is_in_range n raised lowered ≡ false
low n raised lowered h = grind (arith, nat_tests)

out_of_range : (negative : Bool) (kept : List ℕ) (a b r l : ℕ) →
    (0 < length kept → is_in_range (length kept) a b ≡ false) →
    (0 < length kept → is_in_range (length kept) r l ≡ false) →
    number_of_significant negative kept a b ≡ number_of_significant negative kept r l
out_of_range negative [] a b r l h k = refl
out_of_range negative (c ∷ cs) a b r l h k = rw (h (omega arith), k (omega arith))

split : (a b : ℕ) → (a ≤ b) ⊎ (b < a)
split a b = grind arith

module _ (negative : Bool) (cs : List ℕ) (r l after_point most : ℕ) (one : (r ≡ 0) ⊎
    (l ≡ 0)) (short : 2 * length cs + 200 < most) (within : after_point ≤ length cs) where
  front : length (without_front_zeros cs) ≤ length cs
  front = without_front_zeros_shorter cs

  kept : length (significant cs) ≤ length (without_front_zeros cs)
  kept = without_end_zeros_shorter (without_front_zeros cs)

  far_low : (a : ℕ) → most ≤ a → r ≡ 0 → (x : ℕ) → x ≤ r →
      is_in_range (length (significant cs)) (x + (length (without_front_zeros cs) - length (significant cs)))
      (a + after_point) ≡ false
  far_low a past zero_r x le =
      low (length (significant cs)) (x + (length (without_front_zeros cs) - length (significant cs)))
      (a + after_point) (omega (arith, front, kept))

  far_high : (a : ℕ) → most ≤ a → l ≡ 0 → (x : ℕ) → x ≤ l → 0 < length (significant cs) →
      is_in_range (length (significant cs)) (a + (length (without_front_zeros cs) - length (significant cs)))
      (x + after_point) ≡ false
  far_high a past zero_l x le some =
      high (length (significant cs)) (a + (length (without_front_zeros cs) - length (significant cs)))
      (x + after_point) (omega (arith, front, kept))

  capped_numbers : number_of_digits negative cs (min r most) (min l most + after_point) ≡ number_of_digits negative cs
      r (l + after_point)
  capped_numbers =
      elim (split r most) [
        | inl p ↦
            elim (split l most) [
              | inl q ↦
                  (let e : min r most ≡ r = omega arith in
                  let f : min l most ≡ l = omega arith in
                  rw (e, f))
              | inr q ↦
                  (let zero_r : r ≡ 0 = elim one [ inl z ↦ z | inr z ↦ absurd (omega arith) ] in
                  out_of_range negative (significant cs) _ _ _ _ (λ _. far_low (min l most) (omega arith) zero_r
                  (min r most) (omega arith)) (λ _. far_low l (omega arith) zero_r r (omega arith)))
            ]
        | inr p ↦
            (let zero_l : l ≡ 0 = elim one [ inl z ↦ absurd (omega arith) | inr z ↦ z ] in
            out_of_range negative (significant cs) _ _ _ _ (far_high (min r most) (omega arith) zero_l (min l most)
            (omega arith)) (far_high r (omega arith) zero_l l (omega arith)))
      ]

pub capped_same : (negative : Bool) (cs : List ℕ) (p : Power) (after_point : ℕ) → length cs < 2 ^ 64 →
    after_point ≤ length cs → number_of_digits negative cs (min (raised_by p) (2 ^ 70)) (min (lowered_by p) (2 ^ 70) +
    after_point) ≡ number_of_digits negative cs (raised_by p) (lowered_by p + after_point)
capped_same negative cs p after_point short within = capped_numbers negative cs (raised_by p) (lowered_by p)
    after_point (2 ^ 70) (one_way p) (omega arith) within

-- ---- the cases of a text

pub without_power : (text : List ℕ) → power_of (after_fraction (after_digits (after_sign text))) ≡ None →
    number_of text ≡ Err NotNumber
unfolding number_of
without_power text h = rw h

pub without_digit : (text : List ℕ) (p : Power) → power_of (after_fraction (after_digits (after_sign text))) ≡ Some p
    → length (digits_at (after_sign text)) ≡ 0 →
    length (fraction_digits (fraction_at (after_digits (after_sign text)))) ≡ 0 → number_of text ≡ Err NotNumber
unfolding number_of
without_digit text p h none nothing = rw (h, none, nothing)

pub with_digit : (text : List ℕ) (p : Power) → power_of (after_fraction (after_digits (after_sign text))) ≡ Some p →
    0 < length (digits_at (after_sign text)) + length (fraction_digits (fraction_at (after_digits (after_sign text))))
    → number_of text ≡ number_of_digits (is_minus (sign_at text)) (digits_at (after_sign text) ++ fraction_digits
    (fraction_at (after_digits (after_sign text)))) (raised_by p)
    (lowered_by p + length (fraction_digits (fraction_at (after_digits (after_sign text)))))
unfolding number_of
with_digit text p h some =
    let tested : nat_lt 0 (length (digits_at (after_sign text)) + length
    (fraction_digits (fraction_at (after_digits (after_sign text))))) ≡ true = grind (arith, nat_tests) in
    rw (h, tested)

-- ---- what the code has of a text

one_more_digit : (c : ℕ) (cs : List ℕ) (b : Bool) → is_ascii_digit c ≡ b → all_ascii_digits (digits_at cs) ≡ true →
    all_ascii_digits (digits_at (c ∷ cs)) ≡ true
one_more_digit c cs true e h = rw (e, e) h
one_more_digit c cs false e h = rw e

pub digits_at_are_digits : (cs : List ℕ) → all_ascii_digits (digits_at cs) ≡ true
digits_at_are_digits [] = refl
digits_at_are_digits (c ∷ cs) = one_more_digit c cs (is_ascii_digit c) refl (digits_at_are_digits cs)

pub fraction_are_digits : (cs : List ℕ) → all_ascii_digits (fraction_digits (fraction_at cs)) ≡ true
fraction_are_digits [] = refl
fraction_are_digits (c ∷ cs) =
    elim (eqb_tells c 46) [ inl p ↦ rw p.0 (digits_at_are_digits cs) | inr p ↦ rw p.0 ]

module _ (text bytes rest whole others fraction last : List ℕ) (b : bytes ≡ text) (e1 : rest ≡ after_sign bytes)
    (e2 : whole ≡ digits_at rest) (e3 : others ≡ after_digits rest) (e4 : fraction ≡ fraction_digits
    (fraction_at others)) (e5 : last ≡ after_fraction others) where
  pub read_digits : all_ascii_digits (whole ++ fraction) ≡ true
  read_digits = rw (e2, e4) (digits_joined (digits_at rest) (fraction_digits (fraction_at others))
      (digits_at_are_digits rest) (fraction_are_digits others))

  last_is : last ≡ after_fraction (after_digits (after_sign text))
  last_is = e5 ∙ ap after_fraction (e3 ∙ ap after_digits (e1 ∙ ap after_sign b))

  whole_is : whole ≡ digits_at (after_sign text)
  whole_is = e2 ∙ ap digits_at (e1 ∙ ap after_sign b)

  fraction_is : fraction ≡ fraction_digits (fraction_at (after_digits (after_sign text)))
  fraction_is = e4 ∙ ap (λ x. fraction_digits (fraction_at x)) (e3 ∙ ap after_digits (e1 ∙ ap after_sign b))

  pub read_missing : None ≡ option_map shift_of (power_of last) → Err NotNumber ≡ number_of text
  read_missing h = sym (without_power text (rw last_is at (power_missing (power_of last) h)))

  pub read_empty : (s : Shift) → Some s ≡ option_map shift_of (power_of last) → length whole + length fraction ≡ 0 →
      Err NotNumber ≡ number_of text
  read_empty s h none =
      let there = power_there (power_of (after_fraction (after_digits (after_sign text)))) s (rw last_is at h) in
      sym (without_digit text there.0 there.1 (omega (arith, ap length whole_is)) (omega (
        arith,
        ap length fraction_is,
      )))

  found_with : (p : Power) (raised lowered : ℕ) (negative : Bool) (result : Result Decimal NumberFault) →
      power_of (after_fraction (after_digits (after_sign text))) ≡ Some p → raised ≡ min (raised_by p) (2 ^ 70) →
      lowered ≡ min (lowered_by p) (2 ^ 70) → negative ≡ is_minus (sign_at bytes) →
      0 < length whole + length fraction → length (whole ++ fraction) < 2 ^ 64 →
      result ≡ number_of_digits negative (whole ++ fraction) raised (lowered + length fraction) →
      result ≡ number_of text
  found_with p raised lowered negative result there e f sign some short given =
      let same = with_digit text p there (omega (arith, ap length whole_is, ap length fraction_is)) in
      let capped : number_of_digits negative (whole ++ fraction) raised (lowered + length fraction) ≡ number_of_digits
      (is_minus (sign_at text)) (whole ++ fraction) (raised_by p) (lowered_by p + length fraction) =
      rw (e, f, sign, b) (capped_same (is_minus (sign_at text)) (whole ++ fraction) p (length fraction) short
      (omega (arith, length-append whole fraction))) in
      let named : number_of_digits (is_minus (sign_at text)) (whole ++ fraction) (raised_by p)
      (lowered_by p + length fraction) ≡ number_of text = rw (whole_is, fraction_is) (sym same) in
      given ∙ capped ∙ named

  pub read_found : (s : Shift) (negative : Bool) (result : Result Decimal NumberFault) →
      negative ≡ is_minus (sign_at bytes) → Some s ≡ option_map shift_of (power_of last) →
      0 < length whole + length fraction → length (whole ++ fraction) < 2 ^ 64 →
      result ≡ number_of_digits negative (whole ++ fraction) s.raised (s.lowered + length fraction) →
      result ≡ number_of text
  read_found s negative result sign h some short given =
      let there = power_there (power_of (after_fraction (after_digits (after_sign text)))) s (rw last_is at h) in
      found_with there.0 s.raised s.lowered negative result there.1 (ap (λ x. x.raised) there.2)
      (ap (λ x. x.lowered) there.2) sign some short given
