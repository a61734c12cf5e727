-- The text of a number reads as that number, and numbers of one value are one number.
use Rattle.std.proofs.Common.{◌≡◌, ℕ, zero, suc, ◌+◌, ◌-◌, ◌*◌, ◌/◌, ◌%◌, ◌^◌, ◌<◌, ◌≤◌, Bool, true, false, nat_lt}
use Rattle.std.proofs.Common.{List, [], ◌∷◌, ◌++◌, length, take, drop, replicate, decimal, if◌then◌else◌, pos, neg_ℤ}
use Rattle.std.proofs.Common.{Ok, refl, sym, ap, ◌∙◌, arith, ◌⊎◌, inl, inr, length-append, take-append-drop}
use Rattle.std.proofs.Common.{length-drop, eq-zero-or-pos, nat_le, mul_comm, mul_assoc, pow-suc}
use Rattle.std.proofs.lemmas.Nat.{mul-le, pow-add}
use Rattle.dbe_num.proofs.Compared.{three_ways, times_below}
use Rattle.std.proofs.lemmas.List.{length-replicate}
use Rattle.std.proofs.lemmas.Bool.Decides.{nat_tests}
use Rattle.std.proofs.lemmas.Fmt.{decimal_digit, decimal_step_wide, decimal_by_steps_wide, length-decimal-le_wide}
use Rattle.std.specs.Str.{all_ascii_digits}
use Rattle.std.specs.Char.{is_ascii_digit}
use Rattle.dbe_num.specs.Decimal.{Decimal, IsNormal, zero_number, units}
use Rattle.dbe_num.specs.Numeral.{fraction_digits, is_minus, minus, unmarked, without_front_zeros, without_end_zeros}
use Rattle.dbe_num.specs.Numeral.{significant, whole_number, number_of_significant, number_of_digits, IsNumeral}
use Rattle.dbe_num.specs.Numeral.{numeral_number}
use Rattle.dbe_num.specs.NormalText.{fraction_length, digits_to_ones, all_digits, whole_length, fraction_with}
use Rattle.dbe_num.specs.NormalText.{normal_numeral, normal_text}
use Rattle.dbe_num.specs.Reading.{number_of}
use Rattle.dbe_num.proofs.Digits.{without_front_zeros_other, without_front_zeros_within, without_end_zeros_past}
use Rattle.dbe_num.proofs.Digits.{without_end_zeros_within, whole_number_parts, ten_pow_pos, front_digits}
use Rattle.dbe_num.proofs.Digits.{back_digits}
use Rattle.dbe_num.proofs.Significant.{digits_joined}
use Rattle.dbe_num.proofs.Grammar.{grammar_read}

-- ---- what a number is written with

-- digits that a number is written with: they are digits, they are the number, and none is an idle zero
record Writes (n : ℕ) (ds : List ℕ) : Type 0 where
  digits : all_ascii_digits ds ≡ true
  number : whole_number ds ≡ n
  front : 0 < n → without_front_zeros ds ≡ ds
  some : 0 < length ds

one_digit : (n : ℕ) → n < 10 → all_ascii_digits ((48 + n) ∷ []) ≡ true
one_digit n h =
    let digit : is_ascii_digit (48 + n) ≡ true = grind (arith, nat_tests) in
    rw digit

writes_one : (n : ℕ) → n < 10 → Writes n ((48 + n) ∷ [])
writes_one n h = record {
  digits = one_digit n h;
  number = omega arith;
  front = λ some. without_front_zeros_other (48 + n) [] (λ e. absurd (omega arith));
  some = omega arith;
}

writes_more : (n : ℕ) (ds : List ℕ) → 10 ≤ n → Writes (n / 10) ds → Writes n (ds ++ ((48 + n % 10) ∷ []))
writes_more n ds h w =
    let front_is : without_front_zeros ds ≡ ds = w.front (omega arith) in
    record {
      digits = digits_joined ds ((48 + n % 10) ∷ []) w.digits (one_digit (n % 10) (omega arith));
      number = whole_number_parts 0 ds ((48 + n % 10) ∷ []) ∙ rw w.number (omega arith);
      front = λ _. without_front_zeros_within ds ((48 + n % 10) ∷ []) (rw front_is w.some) ∙
          ap (λ x. x ++ ((48 + n % 10) ∷ [])) front_is;
      some = omega (arith, length-append ds ((48 + n % 10) ∷ []));
    }

decimal_writes : (n : ℕ) → n < 10 ^ 38 → Writes n (decimal n)
decimal_writes n h = decimal_by_steps_wide Writes writes_one writes_more n (omega arith)

-- the last digit is no zero where the number is no multiple of ten
decimal_end : (n : ℕ) → n < 10 ^ 38 → 0 < n % 10 → without_end_zeros (decimal n) ≡ decimal n
decimal_end n few odd = elim (either n) [
  | inl h ↦ rw (decimal_digit n h) (last [] (48 + n) (omega arith))
  | inr h ↦ rw
      (decimal_step_wide n h (omega arith)) (last (decimal (n / 10)) (48 + n % 10) (omega arith))
]
  where
    either : (n : ℕ) → (n < 10) ⊎ (10 ≤ n)
    either n = grind arith

    last : (cs : List ℕ) (c : ℕ) → 48 < c → without_end_zeros (cs ++ c ∷ []) ≡ cs ++ c ∷ []
    last cs c h =
        let alone : without_end_zeros (c ∷ []) ≡ c ∷ [] =
        rw (without_front_zeros_other c [] (λ e. absurd (omega arith))) in
        without_end_zeros_within cs (c ∷ []) (rw alone (omega arith)) ∙ ap (λ x. cs ++ x) alone

-- ---- zeros around digits

zeros_digits : (n : ℕ) → all_ascii_digits (replicate n 48) ≡ true
zeros_digits zero = refl
zeros_digits (suc n) = zeros_digits n

zeros_in_front : (n : ℕ) (cs : List ℕ) → without_front_zeros (replicate n 48 ++ cs) ≡ without_front_zeros cs
zeros_in_front zero cs = refl
zeros_in_front (suc n) cs = zeros_in_front n cs

zeros_alone : (n : ℕ) → without_end_zeros (replicate n 48) ≡ []
zeros_alone zero = refl
zeros_alone (suc n) = without_end_zeros_past (48 ∷ []) (replicate n 48) (ap length (zeros_alone n))

module _ (d : Decimal) (normal : IsNormal d) (some : 0 < d.digits) where
  written : Writes d.digits (decimal d.digits)
  written = decimal_writes d.digits normal.few

  front_is : without_front_zeros (all_digits d) ≡ digits_to_ones d
  front_is =
      zeros_in_front (fraction_length d + 1 - length (digits_to_ones d)) (digits_to_ones d)
      ∙ without_front_zeros_within (decimal d.digits) (replicate (d.place - 167) 48) (rw (written.front some)
      written.some)
      ∙ ap (λ x. x ++ replicate (d.place - 167) 48) (written.front some)

  significant_is : significant (all_digits d) ≡ decimal d.digits
  significant_is =
      ap without_end_zeros front_is
      ∙ without_end_zeros_past (decimal d.digits) (replicate (d.place - 167) 48)
      (ap length (zeros_alone (d.place - 167)))
      ∙ decimal_end d.digits normal.few (normal.no_idle_zero some)

-- ---- the number of such digits

number_in_range : (negative : Bool) (cs : List ℕ) (raised lowered : ℕ) → 0 < length cs → length cs ≤ 38 →
    lowered ≤ raised + length cs + 129 → raised + length cs ≤ lowered + 126 →
    number_of_significant negative cs raised lowered ≡ Ok (record {
      negative = negative;
      digits = whole_number cs;
      place = raised + 167 - lowered;
    })
number_in_range negative [] raised lowered some few low high = absurd (omega arith)
number_in_range negative (c ∷ cs) raised lowered some few low high =
    let short : nat_lt 38 (length (c ∷ cs)) ≡ false = no_more 38 (length (c ∷ cs)) few in
    let first : nat_le lowered (raised + length (c ∷ cs) + 129) ≡ true =
    at_most lowered (raised + length (c ∷ cs) + 129) low in
    let second : nat_le (raised + length (c ∷ cs)) (lowered + 126) ≡ true =
    at_most (raised + length (c ∷ cs)) (lowered + 126) high in
    rw (short, first, second)
  where
    no_more : (m n : ℕ) → n ≤ m → nat_lt m n ≡ false
    no_more m n h = grind (arith, nat_tests)

    at_most : (m n : ℕ) → m ≤ n → nat_le m n ≡ true
    at_most m n h = grind (arith, nat_tests)

few_digits : (n : ℕ) → n < 10 ^ 38 → length (decimal n) ≤ 38
few_digits n h = length-decimal-le_wide 38 n (omega arith) h (omega arith)

all_length : (d : Decimal) → fraction_length d + 1 ≤ length (all_digits d)
all_length d =
    omega (
      arith,
      length-append (replicate (fraction_length d + 1 - length (digits_to_ones d)) 48) (digits_to_ones d),
      length-replicate {A = ℕ} (fraction_length d + 1 - length (digits_to_ones d)) 48,
    )

number_of_all : (d : Decimal) → IsNormal d → number_of_digits d.negative (all_digits d) 0 (fraction_length d) ≡ Ok d
number_of_all d h =
    elim (eq-zero-or-pos d.digits) [
      | inl z ↦ rw (h.one_zero z) (zero_digits)
      | inr some ↦
          (let idle : length (digits_to_ones d) - length (decimal d.digits) ≡ d.place - 167 =
          omega (
            arith,
            length-append (decimal d.digits) (replicate (d.place - 167) 48),
            length-replicate {A = ℕ} (d.place - 167) 48,
          ) in
          let range = number_in_range d.negative (decimal d.digits) (0 + (d.place - 167)) (fraction_length d)
          (decimal_writes d.digits h.few).some (few_digits d.digits h.few) (let low = h.not_small some in
          omega arith) (let high = h.not_large some in omega arith) in
          let place : 0 + (d.place - 167) + 167 - fraction_length d ≡ d.place = omega arith in
          rw (significant_is d h some, front_is d h some, idle) (range ∙ rw (
            (decimal_writes d.digits h.few).number,
            place,
          )))
    ]
  where
    zero_digits : number_of_digits zero_number.negative (all_digits zero_number) 0 (fraction_length zero_number) ≡ Ok
        zero_number
    zero_digits = (let e : decimal 0 ≡ 48 ∷ [] = decimal_digit 0 (omega arith) in rw e)

-- ---- the numeral of a number

fraction_is : (cs : List ℕ) → fraction_digits (fraction_with cs) ≡ cs
fraction_is [] = refl
fraction_is (c ∷ cs) = refl

sign_is : (b : Bool) → is_minus (if b then minus else unmarked) ≡ b
sign_is true = refl
sign_is false = refl

all_are_digits : (d : Decimal) → IsNormal d → all_ascii_digits (all_digits d) ≡ true
all_are_digits d h =
    digits_joined (replicate (fraction_length d + 1 - length (digits_to_ones d)) 48) (digits_to_ones d)
    (zeros_digits (fraction_length d + 1 - length (digits_to_ones d))) (digits_joined (decimal d.digits)
    (replicate (d.place - 167) 48) (decimal_writes d.digits h.few).digits (zeros_digits (d.place - 167)))

normal_is_numeral : (d : Decimal) → IsNormal d → IsNumeral (normal_numeral d)
unfolding normal_numeral
normal_is_numeral d h =
    let parts : take (whole_length d) (all_digits d) ++ drop (whole_length d) (all_digits d) ≡ all_digits d =
    take-append-drop (whole_length d) (all_digits d) in
    let digits : all_ascii_digits (take (whole_length d) (all_digits d) ++ drop (whole_length d) (all_digits d)) ≡
    true = rw parts (all_are_digits d h) in
    record {
      whole = front_digits (take (whole_length d) (all_digits d)) (drop (whole_length d) (all_digits d)) digits;
      fraction = rw (fraction_is (drop (whole_length d) (all_digits d)))
          (back_digits (take (whole_length d) (all_digits d)) (drop (whole_length d) (all_digits d)) digits);
      a_digit = rw (fraction_is (drop (whole_length d) (all_digits d))) (omega (
        arith,
        length-append (take (whole_length d) (all_digits d)) (drop (whole_length d) (all_digits d)),
        ap length parts,
        all_length d,
      ));
      exponent = tt;
    }

normal_number : (d : Decimal) → IsNormal d → numeral_number (normal_numeral d) ≡ Ok d
unfolding normal_numeral
normal_number d h =
    let parts : take (whole_length d) (all_digits d) ++ drop (whole_length d) (all_digits d) ≡ all_digits d =
    take-append-drop (whole_length d) (all_digits d) in
    let behind : 0 + length (drop (whole_length d) (all_digits d)) ≡ fraction_length d =
    omega (arith, length-drop (whole_length d) (all_digits d), all_length d) in
    rw (sign_is d.negative, fraction_is (drop (whole_length d) (all_digits d)), behind, parts) (number_of_all d h)

-- ---- the law

pub read_again : (d : Decimal) → IsNormal d → number_of (normal_text d) ≡ Ok d
unfolding normal_text
read_again d h = grammar_read (normal_numeral d) (normal_is_numeral d h) ∙ normal_number d h

-- ---- one number for each value

same_units : (s t : Bool) (m n : ℕ) → 0 < m → 0 < n →
    (if s then neg_ℤ (pos m) else pos m) ≡ (if t then neg_ℤ (pos n) else pos n) → (s ≡ t) × (m ≡ n)
same_units s t zero n h k e = absurd (omega arith)
same_units s t (suc m) zero h k e = absurd (omega arith)
same_units true true (suc m) (suc n) h k e = (refl, cc)
same_units false false (suc m) (suc n) h k e = (refl, cc)
same_units true false (suc m) (suc n) h k e = absurd (cc)
same_units false true (suc m) (suc n) h k e = absurd (cc)

cancel : (x y k : ℕ) → 0 < k → x * k ≡ y * k → x ≡ y
cancel x y k p e =
    elim (three_ways x y) [
      | inl h ↦ absurd (omega (arith, times_below x y k h p))
      | inr h ↦ elim h [ inl g ↦ absurd (omega (arith, times_below y x k g p)) | inr f ↦ f ]
    ]

-- a multiple of a higher power of ten ends in a zero
not_higher : (x y p j : ℕ) → 0 < x % 10 → x * 10 ^ p ≡ y * 10 ^ (p + suc j) → ⊥
not_higher x y p j odd e =
    let higher : 10 ^ (p + suc j) ≡ 10 ^ suc j * 10 ^ p = pow-add 10 p (suc j) ∙ mul_comm (10 ^ p) (10 ^ suc j) in
    let same : x ≡ y * 10 ^ suc j = cancel x (y * 10 ^ suc j) (10 ^ p) (omega (arith, ten_pow_pos p)) (e ∙
    ap (λ z. y * z) higher ∙ sym (mul_assoc y (10 ^ suc j) (10 ^ p))) in
    let tens : x ≡ y * 10 ^ j * 10 = same ∙ ap (λ z. y * z) (pow-suc 10 j) ∙ sym (mul_assoc y (10 ^ j) 10) in
    omega arith

same_parts : (x y p q : ℕ) → 0 < x % 10 → 0 < y % 10 → x * 10 ^ p ≡ y * 10 ^ q → (x ≡ y) × (p ≡ q)
same_parts x y p q h k e =
    elim (three_ways p q) [
      | inl lt ↦
          (let f : q ≡ p + suc (q - p - 1) = omega arith in
          absurd (not_higher x y p (q - p - 1) h (rw f at e)))
      | inr g ↦
          elim g [
            | inl gt ↦
                (let f : p ≡ q + suc (p - q - 1) = omega arith in
                absurd (not_higher y x q (p - q - 1) k (rw f at (sym e))))
            | inr f ↦ (cancel x y (10 ^ q) (omega (arith, ten_pow_pos q)) (rw f at e), f)
          ]
    ]

some_size : (d : Decimal) → 0 < d.digits → 0 < d.digits * 10 ^ d.place
some_size d some = omega (arith, mul-le 1 1 d.digits (10 ^ d.place) (omega arith) (ten_pow_pos d.place))

-- zero has no other number's value
alone_at_zero : (s : Bool) (m : ℕ) → 0 < m → pos 0 ≡ (if s then neg_ℤ (pos m) else pos m) → ⊥
alone_at_zero s zero h e = absurd (omega arith)
alone_at_zero true (suc m) h e = cc
alone_at_zero false (suc m) h e = cc

zero_is : (a b : Decimal) → IsNormal b → a ≡ zero_number → units a ≡ units b → a ≡ b
zero_is a b k z e =
    elim (eq-zero-or-pos b.digits) [
      | inl y ↦ z ∙ sym (k.one_zero y)
      | inr some ↦
          (let f : pos 0 ≡ units b = sym (ap units z) ∙ e in
          absurd (alone_at_zero b.negative (b.digits * 10 ^ b.place) (some_size b some) f))
    ]

pub one_form : (a b : Decimal) → IsNormal a → IsNormal b → units a ≡ units b → a ≡ b
one_form a b h k e =
    elim (eq-zero-or-pos a.digits) [
      | inl z ↦ zero_is a b k (h.one_zero z) e
      | inr some ↦
          elim (eq-zero-or-pos b.digits) [
            | inl z ↦ sym (zero_is b a h (k.one_zero z) (sym e))
            | inr other ↦
                (let same = same_units a.negative b.negative (a.digits * 10 ^ a.place) (b.digits * 10 ^ b.place)
                (some_size a some) (some_size b other) e in
                let parts = same_parts a.digits b.digits a.place b.place (h.no_idle_zero some) (k.no_idle_zero other)
                same.1 in
                same_fields a b same.0 parts.0 parts.1)
          ]
    ]
  where
    same_fields : (a b : Decimal) → a.negative ≡ b.negative → a.digits ≡ b.digits → a.place ≡ b.place → a ≡ b
    same_fields a b e f g =
        let made : Bool → ℕ → ℕ → Decimal = λ s x p. record { negative = s; digits = x; place = p } in
        ap (λ s. made s a.digits a.place) e ∙ ap (λ x. made b.negative x a.place) f ∙
        ap (λ p. made b.negative b.digits p) g
