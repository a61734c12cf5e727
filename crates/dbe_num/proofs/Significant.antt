-- Significant digits: what is left after zeros are taken away at both ends.
use Rattle.std.proofs.Common.{◌≡◌, ◌≢◌, ℕ, zero, suc, ◌+◌, ◌-◌, ◌*◌, ◌/◌, ◌%◌, ◌^◌, ◌<◌, ◌≤◌, Bool, true, List, []}
use Rattle.std.proofs.Common.{◌∷◌, ◌++◌, length, reverse, take, drop, get_or, refl, sym, ap, ◌∙◌, arith, inl, inr}
use Rattle.std.proofs.Common.{length-append, length-take, take-append-drop, take-suc, decimal}
use Rattle.std.proofs.lemmas.List.{reverse-append, reverse-reverse, length-reverse, take_more, take_all}
use Rattle.std.proofs.lemmas.List.{nil_from_length}
use Rattle.std.proofs.lemmas.Bool.Decides.{eqb_tells}
use Rattle.std.proofs.lemmas.Fmt.{decimal_digit, decimal_step_wide}
use Rattle.std.proofs.Math.Nat.{pow-le-pow_right}
use Rattle.std.specs.Str.{all_ascii_digits}
use Rattle.std.specs.Char.{is_ascii_digit}
use Rattle.dbe_num.specs.Decimal.{IsNormal, digit_count}
use Rattle.dbe_num.specs.Numeral.{without_front_zeros, without_end_zeros, whole_number}
use Rattle.dbe_num.proofs.Digits.{without_front_zeros_other, without_end_zeros_past, without_end_zeros_within}
use Rattle.dbe_num.proofs.Digits.{whole_number_grows, whole_number_parts, whole_number_below, digit_range}
use Rattle.dbe_num.proofs.Digits.{first_is_digit, others_are_digits, front_digits}

-- ---- zeros taken away twice

pub without_front_zeros_twice : (cs : List ℕ) → without_front_zeros (without_front_zeros cs) ≡ without_front_zeros cs
without_front_zeros_twice [] = refl
without_front_zeros_twice (c ∷ cs) =
    elim (eqb_tells c 48) [
      | inl p ↦ rw p.0 (without_front_zeros_twice cs)
      | inr p ↦ rw p.0 (without_front_zeros_other c cs p.1)
    ]

pub without_end_zeros_twice : (cs : List ℕ) → without_end_zeros (without_end_zeros cs) ≡ without_end_zeros cs
without_end_zeros_twice cs =
    ap (λ xs. reverse (without_front_zeros xs)) (reverse-reverse (without_front_zeros (reverse cs)))
    ∙ ap reverse (without_front_zeros_twice (reverse cs))

pub without_front_zeros_shorter : (cs : List ℕ) → length (without_front_zeros cs) ≤ length cs
without_front_zeros_shorter [] = omega arith
without_front_zeros_shorter (c ∷ cs) =
    elim (eqb_tells c 48) [
      | inl p ↦ rw p.0 (omega (arith, without_front_zeros_shorter cs))
      | inr p ↦ rw p.0 (omega arith)
    ]

pub without_end_zeros_shorter : (cs : List ℕ) → length (without_end_zeros cs) ≤ length cs
without_end_zeros_shorter cs =
    omega (
      arith,
      length-reverse (without_front_zeros (reverse cs)),
      without_front_zeros_shorter (reverse cs),
      length-reverse cs,
    )

-- a list that zeros at the front were taken from does not begin with one
pub first_is_other : (c : ℕ) (cs : List ℕ) → without_front_zeros (c ∷ cs) ≡ c ∷ cs → c ≢ 48
first_is_other c cs h e =
    let k : without_front_zeros cs ≡ 48 ∷ cs = rw e at h in
    let l : length (without_front_zeros cs) ≡ suc (length cs) = ap length k in
    omega (arith, without_front_zeros_shorter cs)

-- zeros taken away at the end leave the front
pub significant_front_other : (c : ℕ) (cs : List ℕ) → c ≢ 48 → without_end_zeros (c ∷ cs) ≡ c ∷ without_end_zeros cs
significant_front_other c cs h = go (length (without_end_zeros cs)) refl
  where
    alone : without_end_zeros (c ∷ []) ≡ c ∷ []
    alone = ap reverse (without_front_zeros_other c [] h)

    go : (n : ℕ) → length (without_end_zeros cs) ≡ n → without_end_zeros (c ∷ cs) ≡ c ∷ without_end_zeros cs
    go zero e = without_end_zeros_past (c ∷ []) cs e ∙ alone ∙
        ap (λ xs. c ∷ xs) (sym (nil_from_length (without_end_zeros cs) e))
    go (suc n) e = without_end_zeros_within (c ∷ []) cs (omega arith)

pub significant_front : (cs : List ℕ) → without_front_zeros cs ≡ cs →
    without_front_zeros (without_end_zeros cs) ≡ without_end_zeros cs
significant_front [] h = refl
significant_front (c ∷ cs) h =
    let other : c ≢ 48 = first_is_other c cs h in
    rw (significant_front_other c cs other) (without_front_zeros_other c (without_end_zeros cs) other)

-- ---- digits stay digits

pub digits_joined : (cs ds : List ℕ) → all_ascii_digits cs ≡ true → all_ascii_digits ds ≡ true →
    all_ascii_digits (cs ++ ds) ≡ true
digits_joined [] ds h k = k
digits_joined (c ∷ cs) ds h k = rw (first_is_digit c cs h) (digits_joined cs ds (others_are_digits c cs h) k)

pub digits_reversed : (cs : List ℕ) → all_ascii_digits cs ≡ true → all_ascii_digits (reverse cs) ≡ true
digits_reversed [] h = refl
digits_reversed (c ∷ cs) h =
    let alone : all_ascii_digits (c ∷ []) ≡ true = rw (first_is_digit c cs h) in
    rw (reverse-append (c ∷ []) cs) (digits_joined (reverse cs) (c ∷ [])
    (digits_reversed cs (others_are_digits c cs h)) alone)

pub digits_without_front : (cs : List ℕ) → all_ascii_digits cs ≡ true → all_ascii_digits (without_front_zeros cs) ≡ true
digits_without_front [] h = refl
digits_without_front (c ∷ cs) h =
    elim (eqb_tells c 48) [
      | inl p ↦ rw p.0 (digits_without_front cs (others_are_digits c cs h))
      | inr p ↦ rw p.0 h
    ]

pub digits_without_end : (cs : List ℕ) → all_ascii_digits cs ≡ true → all_ascii_digits (without_end_zeros cs) ≡ true
digits_without_end cs h = digits_reversed (without_front_zeros (reverse cs)) (digits_without_front (reverse cs)
    (digits_reversed cs h))

pub digit_at_is : (cs : List ℕ) (i : ℕ) → all_ascii_digits cs ≡ true → i < length cs →
    is_ascii_digit (get_or cs i 0) ≡ true
digit_at_is [] i h lt = absurd (omega arith)
digit_at_is (c ∷ cs) zero h lt = first_is_digit c cs h
digit_at_is (c ∷ cs) (suc i) h lt = digit_at_is cs i (others_are_digits c cs h) (omega arith)

pub front_are_digits : (cs : List ℕ) (i : ℕ) → all_ascii_digits cs ≡ true → all_ascii_digits (take i cs) ≡ true
front_are_digits cs i h = front_digits (take i cs) (drop i cs) (rw (take-append-drop i cs) h)

-- ---- a number is written with its significant digits

below_wide : (n : ℕ) (cs : List ℕ) → all_ascii_digits cs ≡ true → n ≡ whole_number cs → length cs ≤ 38 → n < 10 ^ 38
below_wide n cs h e few =
    let high : 10 ^ length cs ≤ 10 ^ 38 = pow-le-pow_right {n = 10} (omega arith) {i = length cs} {j = 38} few in
    rw e (omega (arith, whole_number_below 0 cs h))

written_step : (v n d : ℕ) (front : List ℕ) → n ≡ v * 10 + (d - 48) → 48 ≤ d → d ≤ 57 → 1 ≤ v → v < 10 ^ 38 →
    decimal v ≡ front → decimal n ≡ front ++ d ∷ []
written_step v n d front e low high more wide h =
    let tens : n / 10 ≡ v = omega arith in
    let ones : 48 + n % 10 ≡ d = omega arith in
    decimal_step_wide n (omega arith) (omega arith) ∙ rw (tens, ones, h)

first_written : (c : ℕ) → 48 ≤ c → c ≤ 57 → decimal (0 + (c - 48)) ≡ c ∷ []
first_written c low high =
    let back : 48 + (0 + (c - 48)) ≡ c = omega arith in
    decimal_digit (0 + (c - 48)) (omega arith) ∙ rw back

module _ (c : ℕ) (tail : List ℕ) (digits : all_ascii_digits (c ∷ tail) ≡ true) (other : c ≢ 48)
    (few : length tail < 38) where
  written : (i : ℕ) → i ≤ length tail → decimal (whole_number (c ∷ take i tail)) ≡ c ∷ take i tail
  written zero h =
      let range = digit_range c (first_is_digit c tail digits) in
      first_written c range.0 range.1
  written (suc i) h =
      let front = c ∷ take i tail in
      let d = get_or tail i 0 in
      let range = digit_range d (digit_at_is tail i (others_are_digits c tail digits) (omega arith)) in
      let front_digits : all_ascii_digits front ≡ true =
      rw (first_is_digit c tail digits) (front_are_digits tail i (others_are_digits c tail digits)) in
      let short : length front ≤ 38 = omega (arith, length-take i tail) in
      let some : 1 ≤ whole_number front = omega (
        arith,
        whole_number_grows (0 * 10 + (c - 48)) (take i tail),
        digit_range c (first_is_digit c tail digits),
      ) in
      rw (take-suc tail i 0 (omega arith)) (written_step (whole_number front) _ d front (whole_number_parts 0 front
      (d ∷ [])) range.0 range.1 some (below_wide (whole_number front) front front_digits refl short)
      (written i (omega arith)))

-- digits with no zero at the front are what their number is written with
pub decimal_of_whole_number : (cs : List ℕ) → all_ascii_digits cs ≡ true → without_front_zeros cs ≡ cs →
    0 < length cs → length cs ≤ 38 → decimal (whole_number cs) ≡ cs
decimal_of_whole_number [] digits front some few = absurd (omega arith)
decimal_of_whole_number (c ∷ tail) digits front some few =
    let all : take (length tail) tail ≡ tail = take_all (length tail) tail (omega arith) in
    let h = written c tail digits (first_is_other c tail front) (omega arith) (length tail) (omega arith) in
    rw all at h

-- ---- the last digit

pub last_step : (cs : List ℕ) (d : ℕ) → is_ascii_digit d ≡ true → d ≢ 48 → 0 < whole_number (cs ++ d ∷ []) % 10
last_step cs d h other = rw (whole_number_parts 0 cs (d ∷ [])) (omega (arith, digit_range d h))

pub last_digit : (cs : List ℕ) → all_ascii_digits cs ≡ true → without_end_zeros cs ≡ cs → 0 < length cs →
    0 < whole_number cs % 10
last_digit cs digits end some =
    let i : ℕ = length cs - 1 in
    let d : ℕ = get_or cs i 0 in
    let parts : cs ≡ take i cs ++ d ∷ [] = sym (take_all (i + 1) cs (omega arith)) ∙ take_more cs i 0 (omega arith) in
    rw parts (last_step (take i cs) d (digit_at_is cs i digits (omega arith)) (last_is_other cs (take i cs) d end
    parts))
  where
    last_is_other : (cs front : List ℕ) (d : ℕ) → without_end_zeros cs ≡ cs → cs ≡ front ++ d ∷ [] → d ≢ 48
    last_is_other cs front d end parts e =
        let zero_last : cs ≡ front ++ 48 ∷ [] = parts ∙ ap (λ x. front ++ x ∷ []) e in
        let shorter : without_end_zeros cs ≡ without_end_zeros front = ap without_end_zeros zero_last ∙
        without_end_zeros_past front (48 ∷ []) refl in
        omega (
          arith,
          ap length (sym end ∙ shorter),
          without_end_zeros_shorter front,
          ap length parts,
          length-append front (d ∷ []),
        )

-- ---- a number of significant digits in range is normal

pub significant_is_normal : (negative : Bool) (cs : List ℕ) (n raised lowered : ℕ) → n ≡ whole_number cs →
    all_ascii_digits cs ≡ true → without_front_zeros cs ≡ cs → without_end_zeros cs ≡ cs → 0 < length cs →
    length cs ≤ 38 → lowered ≤ raised + length cs + 129 → raised + length cs ≤ lowered + 126 →
    IsNormal (record { negative = negative; digits = n; place = raised + 167 - lowered })
significant_is_normal negative cs n raised lowered e digits front end some few low high =
    let odd : 0 < n % 10 = rw e (last_digit cs digits end some) in
    let count : digit_count n ≡ length cs = rw e (ap length (decimal_of_whole_number cs digits front some few)) in
    record {
      few = below_wide n cs digits e few;
      one_zero = λ z. absurd (omega arith);
      no_idle_zero = λ _. odd;
      not_small = λ _. rw count (omega arith);
      not_large = λ _. rw count (omega arith);
    }
