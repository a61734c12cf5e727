-- A text read from left to right is the numeral that the grammar has for it, and no other.
use Rattle.std.proofs.Common.{◌≡◌, ◌≢◌, ℕ, ◌+◌, ◌<◌, Bool, true, false, ◌&&◌, nat_lt, if◌then◌else◌, ◌==◌, List, []}
use Rattle.std.proofs.Common.{◌∷◌, ◌++◌, length, Option, Some, None, Err, refl, sym, ap, ◌∙◌, arith, inl, inr}
use Rattle.std.proofs.Common.{append-nil, ltb-true, eqb-true}
use Rattle.std.proofs.lemmas.Bool.Decides.{nat_tests, eqb_tells}
use Rattle.std.proofs.lemmas.List.{nil_from_length}
use Rattle.std.specs.Str.{all_ascii_digits}
use Rattle.std.specs.Char.{is_ascii_digit}
use Rattle.dbe_num.specs.Numeral.{Sign, unmarked, plus, minus, sign_text, Fraction, no_point, point, fraction_text}
use Rattle.dbe_num.specs.Numeral.{fraction_digits, Power, no_power, power, power_text, IsPower, Numeral, numeral_text}
use Rattle.dbe_num.specs.Numeral.{IsNumeral, numeral_number}
use Rattle.dbe_num.specs.Reading.{sign_at, after_sign, digits_at, after_digits, fraction_at, after_fraction}
use Rattle.dbe_num.specs.Reading.{power_after, power_of, with_power, numeral_of, number_of, number_of_option}
use Rattle.dbe_num.specs.declared.number_fault.NumberFault.TheVariants.{NotNumber}
use Rattle.dbe_num.proofs.Digits.{first_is_digit, others_are_digits, digit_range}
use Rattle.dbe_num.proofs.Parsed.{digits_at_are_digits, fraction_are_digits}

-- ---- a numeral's text, read

-- bytes that begin with no sign
abbrev HasNoSign : List ℕ → Type 0
HasNoSign [] = Unit {0}
HasNoSign (c ∷ cs) = (c ≢ 43) × (c ≢ 45)

-- bytes that begin with no digit
abbrev HasNoDigit : List ℕ → Type 0
HasNoDigit [] = Unit {0}
HasNoDigit (c ∷ cs) = is_ascii_digit c ≡ false

-- bytes that begin with no point
abbrev HasNoPoint : List ℕ → Type 0
HasNoPoint [] = Unit {0}
HasNoPoint (c ∷ cs) = c ≢ 46

eqb_no : (a b : ℕ) → a ≢ b → (a == b) ≡ false
eqb_no a b h = elim (eqb_tells a b) [ inl p ↦ absurd (h p.1) | inr p ↦ p.0 ]

sign_read : (s : Sign) (cs : List ℕ) → HasNoSign cs → (sign_at (sign_text s ++ cs) ≡ s) ×
    (after_sign (sign_text s ++ cs) ≡ cs)
sign_read unmarked [] h = (refl, refl)
sign_read unmarked (c ∷ cs) h = (rw (eqb_no c 43 h.0, eqb_no c 45 h.1), rw (eqb_no c 43 h.0, eqb_no c 45 h.1))
sign_read plus cs h = (refl, refl)
sign_read minus cs h = (refl, refl)

digits_read : (ds cs : List ℕ) → all_ascii_digits ds ≡ true → HasNoDigit cs → (digits_at (ds ++ cs) ≡ ds) ×
    (after_digits (ds ++ cs) ≡ cs)
digits_read [] [] h k = (refl, refl)
digits_read [] (c ∷ cs) h k = (rw k, rw k)
digits_read (d ∷ ds) cs h k =
    let more = digits_read ds cs (others_are_digits d ds h) k in
    let digit = first_is_digit d ds h in
    (rw digit (ap (λ x. d ∷ x) more.0), rw digit more.1)

fraction_read : (f : Fraction) (cs : List ℕ) → all_ascii_digits (fraction_digits f) ≡ true → HasNoDigit cs →
    HasNoPoint cs → (fraction_at (fraction_text f ++ cs) ≡ f) × (after_fraction (fraction_text f ++ cs) ≡ cs)
fraction_read no_point [] h k p = (refl, refl)
fraction_read no_point (c ∷ cs) h k p = (rw (eqb_no c 46 p), rw (eqb_no c 46 p))
fraction_read (point ds) cs h k p =
    let read = digits_read ds cs h k in
    (ap point read.0, read.1)

digits_have_no_sign : (ds : List ℕ) → all_ascii_digits ds ≡ true → HasNoSign ds
digits_have_no_sign [] h = tt
digits_have_no_sign (c ∷ cs) h =
    let range = digit_range c (first_is_digit c cs h) in
    (λ e. absurd (omega arith), λ e. absurd (omega arith))

power_after_read : (upper : Bool) (sign : Sign) (digits : List ℕ) → all_ascii_digits digits ≡ true →
    0 < length digits → power_after upper (sign_text sign ++ digits) ≡ Some (power upper sign digits)
power_after_read upper sign digits h some =
    let signed = sign_read sign digits (digits_have_no_sign digits h) in
    let front : digits_at digits ≡ digits = rw append-nil at ((digits_read digits [] h tt).0) in
    let back : after_digits digits ≡ [] = rw append-nil at ((digits_read digits [] h tt).1) in
    let tested : nat_lt 0 (length digits) ≡ true = grind (arith, nat_tests) in
    rw (signed.0, signed.1, front, back, tested)

power_read : (p : Power) → IsPower p → power_of (power_text p) ≡ Some p
power_read no_power h = refl
power_read (power true sign digits) h = power_after_read true sign digits h.0 h.1
power_read (power false sign digits) h = power_after_read false sign digits h.0 h.1

power_has_no_digit : (p : Power) → HasNoDigit (power_text p)
power_has_no_digit no_power = tt
power_has_no_digit (power true sign digits) = refl
power_has_no_digit (power false sign digits) = refl

power_has_no_point : (p : Power) → HasNoPoint (power_text p)
power_has_no_point no_power = tt
power_has_no_point (power true sign digits) = λ e. absurd (omega arith)
power_has_no_point (power false sign digits) = λ e. absurd (omega arith)

rest_has_no_digit : (f : Fraction) (p : Power) → HasNoDigit (fraction_text f ++ power_text p)
rest_has_no_digit no_point p = power_has_no_digit p
rest_has_no_digit (point ds) p = refl

body_has_no_sign : (whole : List ℕ) (f : Fraction) (rest : List ℕ) → all_ascii_digits whole ≡ true →
    0 < length whole + length (fraction_digits f) → HasNoSign (whole ++ (fraction_text f ++ rest))
body_has_no_sign [] no_point rest h some = absurd (omega arith)
body_has_no_sign [] (point ds) rest h some = (λ e. absurd (omega arith), λ e. absurd (omega arith))
body_has_no_sign (c ∷ cs) f rest h some =
    let range = digit_range c (first_is_digit c cs h) in
    (λ e. absurd (omega arith), λ e. absurd (omega arith))

numeral_read : (t : Numeral) → IsNumeral t → numeral_of (numeral_text t) ≡ Some t
numeral_read t h =
    let rest : List ℕ = fraction_text t.fraction ++ power_text t.exponent in
    let signed = sign_read t.sign (t.whole ++ rest) (body_has_no_sign t.whole t.fraction (power_text t.exponent)
    h.whole h.a_digit) in
    let whole = digits_read t.whole rest h.whole (rest_has_no_digit t.fraction t.exponent) in
    let part = fraction_read t.fraction (power_text t.exponent) h.fraction (power_has_no_digit t.exponent)
    (power_has_no_point t.exponent) in
    let tested : nat_lt 0 (length t.whole + length (fraction_digits t.fraction)) ≡ true = (let some = h.a_digit in
    grind (arith, nat_tests)) in
    rw (signed.0, signed.1, whole.0, whole.1, part.0, part.1, power_read t.exponent h.exponent, tested)

pub grammar_read : (t : Numeral) → IsNumeral t → number_of (numeral_text t) ≡ numeral_number t
unfolding number_of
grammar_read t h = rw (numeral_read t h)

-- ---- what was read is the text of a numeral

sign_split : (cs : List ℕ) → cs ≡ sign_text (sign_at cs) ++ after_sign cs
sign_split [] = refl
sign_split (c ∷ cs) =
    elim (eqb_tells c 43) [
      | inl p ↦ rw p.1
      | inr p ↦ elim (eqb_tells c 45) [ inl q ↦ rw q.1 | inr q ↦ rw (p.0, q.0) ]
    ]

one_digit_split : (c : ℕ) (cs : List ℕ) (b : Bool) → is_ascii_digit c ≡ b → cs ≡ digits_at cs ++ after_digits cs →
    c ∷ cs ≡ digits_at (c ∷ cs) ++ after_digits (c ∷ cs)
one_digit_split c cs true e h = rw e (ap (λ x. c ∷ x) h)
one_digit_split c cs false e h = rw e

digits_split : (cs : List ℕ) → cs ≡ digits_at cs ++ after_digits cs
digits_split [] = refl
digits_split (c ∷ cs) = one_digit_split c cs (is_ascii_digit c) refl (digits_split cs)

fraction_split : (cs : List ℕ) → cs ≡ fraction_text (fraction_at cs) ++ after_fraction cs
fraction_split [] = refl
fraction_split (c ∷ cs) =
    elim (eqb_tells c 46) [
      | inl p ↦ rw p.1 (ap (λ x. 46 ∷ x) (digits_split cs))
      | inr p ↦ rw p.0
    ]

if_some : {A : Type 0} (b : Bool) (x y : A) → (if b then Some x else None) ≡ Some y → (b ≡ true) × (x ≡ y)
if_some true x y h = (refl, cc)
if_some false x y h = absurd (cc)

both_are : (a b : Bool) → a && b ≡ true → (a ≡ true) × (b ≡ true)
both_are true b h = (refl, h)
both_are false b h = absurd (cc)

power_after_split : (upper : Bool) (cs : List ℕ) (p : Power) → power_after upper cs ≡ Some p →
    (p ≡ power upper (sign_at cs) (digits_at (after_sign cs))) ×
    (cs ≡ sign_text (sign_at cs) ++ digits_at (after_sign cs)) × (0 < length (digits_at (after_sign cs)))
power_after_split upper cs p h =
    let tested = if_some (nat_lt 0 (length (digits_at (after_sign cs))) && length (after_digits (after_sign cs)) ==
    0) (power upper (sign_at cs) (digits_at (after_sign cs))) p h in
    let both = both_are (nat_lt 0 (length (digits_at (after_sign cs)))) (length (after_digits (after_sign cs)) ==
    0) tested.0 in
    let some : 0 < length (digits_at (after_sign cs)) = ltb-true _ _ both.0 in
    let none : after_digits (after_sign cs) ≡ [] =
    nil_from_length (after_digits (after_sign cs)) (eqb-true _ _ both.1) in
    let body : after_sign cs ≡ digits_at (after_sign cs) = digits_split (after_sign cs) ∙
    ap (λ x. digits_at (after_sign cs) ++ x) none ∙ append-nil (digits_at (after_sign cs)) in
    (sym tested.1, sign_split cs ∙ ap (λ x. sign_text (sign_at cs) ++ x) body, some)

power_lettered : (upper : Bool) (c : ℕ) (cs : List ℕ) (p : Power) → c ≡ (if upper then 69 else 101) →
    power_after upper cs ≡ Some p → (c ∷ cs ≡ power_text p) × IsPower p
power_lettered upper c cs p e h =
    let parts = power_after_split upper cs p h in
    rw (parts.0, e) (ap (λ x. (if upper then 69 else 101) ∷ x) parts.1, (digits_at_are_digits (after_sign cs), parts.2))

power_split : (cs : List ℕ) (p : Power) → power_of cs ≡ Some p → (cs ≡ power_text p) × IsPower p
power_split [] p h = (let e : p ≡ no_power = cc in rw e (refl, tt))
power_split (c ∷ cs) p h =
    elim (eqb_tells c 101) [
      | inl q ↦ (let k : power_after false cs ≡ Some p = rw q.1 at h in power_lettered false c cs p q.1 k)
      | inr q ↦
          elim (eqb_tells c 69) [
            | inl r ↦ (let k : power_after true cs ≡ Some p = rw r.1 at h in power_lettered true c cs p r.1 k)
            | inr r ↦ (let k : None ≡ Some p = rw (q.0, r.0) at h in absurd (cc))
          ]
    ]

-- what a numeral that was read has
record HasRead (sign : Sign) (whole : List ℕ) (fraction : Fraction) (o : Option Power) (t : Numeral) : Type 0 where
  exponent : Power
  there : o ≡ Some exponent
  some : 0 < length whole + length (fraction_digits fraction)
  is : t ≡ record { sign = sign; whole = whole; fraction = fraction; exponent = exponent }

with_power_split : (sign : Sign) (whole : List ℕ) (fraction : Fraction) (o : Option Power) (t : Numeral) →
    with_power sign whole fraction o ≡ Some t → HasRead sign whole fraction o t
with_power_split sign whole fraction None t h = absurd (cc)
with_power_split sign whole fraction (Some p) t h =
    let made : Numeral = record { sign = sign; whole = whole; fraction = fraction; exponent = p } in
    let tested = if_some (nat_lt 0 (length whole + length (fraction_digits fraction))) made t h in
    record { exponent = p; there = refl; some = ltb-true _ _ tested.0; is = sym tested.1 }

pub numeral_split : (text : List ℕ) (t : Numeral) → numeral_of text ≡ Some t → IsNumeral t × (text ≡ numeral_text t)
numeral_split text t h =
    let body : List ℕ = after_sign text in
    let rest : List ℕ = after_digits body in
    let read = with_power_split (sign_at text) (digits_at body) (fraction_at rest) (power_of (after_fraction rest)) t
    h in
    let last = power_split (after_fraction rest) read.exponent read.there in
    let lawful : IsNumeral (record {
      sign = sign_at text;
      whole = digits_at body;
      fraction = fraction_at rest;
      exponent = read.exponent;
    }) = record {
      whole = digits_at_are_digits body;
      fraction = fraction_are_digits rest;
      a_digit = read.some;
      exponent = last.1;
    } in
    let spelled : text ≡ sign_text (sign_at text) ++ (digits_at body ++ (fraction_text (fraction_at rest) ++
    power_text read.exponent)) =
    sign_split text
    ∙ ap (λ x. sign_text (sign_at text) ++ x) (digits_split body ∙
    ap (λ x. digits_at body ++ x) (fraction_split rest ∙ ap (λ x. fraction_text (fraction_at rest) ++ x) last.0)) in
    rw read.is (lawful, spelled)

pub numeral_there : (o : Option Numeral) → number_of_option o ≢ Err NotNumber → (t : Numeral) × (o ≡ Some t)
numeral_there None h = absurd (h refl)
numeral_there (Some t) h = (t, refl)

pub grammar_only : (text : List ℕ) → number_of text ≢ Err NotNumber → (t : Numeral) × IsNumeral t ×
    (text ≡ numeral_text t)
unfolding number_of
grammar_only text h =
    let there = numeral_there (numeral_of text) h in
    let split = numeral_split text there.0 there.1 in
    (there.0, split.0, split.1)
