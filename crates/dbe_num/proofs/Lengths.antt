-- How long the text of a number is.
use Rattle.std.proofs.Common.{◌≡◌, ℕ, zero, suc, ◌+◌, ◌-◌, ◌/◌, ◌%◌, ◌^◌, ◌<◌, ◌≤◌, max, Bool, true, false, List, []}
use Rattle.std.proofs.Common.{◌∷◌, ◌++◌, length, take, drop, replicate, if◌then◌else◌, decimal, IsAscii, refl, ap}
use Rattle.std.proofs.Common.{◌∙◌, arith, length-append, length-take, length-drop}
use mir.Val.{bool_byte}
use lib.Dec.{ltb}
use Rattle.std.proofs.lemmas.Bool.Decides.{nat_tests}
use Rattle.std.proofs.lemmas.List.{length-replicate}
use Rattle.std.proofs.lemmas.Fmt.{decimal_digit, decimal_step_wide, length-decimal-le_wide, IsAscii-decimal_wide}
use Rattle.std.proofs.lemmas.Str.{IsAscii-append, IsAscii-take, IsAscii-drop}
use Rattle.std.proofs.lemmas.Str.Ascii.{IsAscii-nil, IsAscii-cons}
use Rattle.dbe_num.specs.Decimal.{Decimal}
use Rattle.dbe_num.specs.Numeral.{fraction_text, sign_text, minus, unmarked}
use Rattle.dbe_num.specs.NormalText.{all_digits, digits_to_ones, fraction_length, whole_length, fraction_with}
use Rattle.dbe_num.specs.NormalText.{normal_numeral, normal_text}
use Rattle.dbe_num.proofs.Written.{zeros_ascii}

-- the digits of a number without its last
pub counted_more : (n m count : ℕ) → 10 ≤ m → m < 10 ^ 64 → count + length (decimal m) ≡ length (decimal n) + 1 →
    count + 1 + length (decimal (m / 10)) ≡ length (decimal n) + 1
counted_more n m count low high so_far =
    let last = decimal_step_wide m low high in
    omega (arith, ap length last, length-append (decimal (m / 10)) ((48 + m % 10) ∷ []))

pub counted_all : (n m count : ℕ) → m < 10 → count + length (decimal m) ≡ length (decimal n) + 1 →
    count ≡ length (decimal n)
counted_all n m count low so_far = omega (arith, ap length (decimal_digit m low))

pub few_counted : (n m count : ℕ) → n < 10 ^ 64 → count + length (decimal m) ≡ length (decimal n) + 1 → count ≤ 65
few_counted n m count fits so_far = omega (arith, length-decimal-le_wide 64 n (omega arith) fits fits)

pub few_digits : (n : ℕ) → n < 10 ^ 64 → length (decimal n) ≤ 64
few_digits n fits = length-decimal-le_wide 64 n (omega arith) fits fits

-- one more where there is anything
abbrev pub one_if : Bool → ℕ
one_if true = 1
one_if false = 0

abbrev pub some : ℕ → Bool
some zero = false
some (suc n) = true

fraction_length_is : (cs : List ℕ) → length (fraction_text (fraction_with cs)) ≡ length cs + one_if (some (length cs))
fraction_length_is [] = refl
fraction_length_is (c ∷ cs) = omega arith

sign_length_is : (b : Bool) → length (sign_text (if b then minus else unmarked)) ≡ one_if b
sign_length_is true = refl
sign_length_is false = refl

all_length : (d : Decimal) → length (all_digits d) ≡ max (fraction_length d + 1) (length (decimal d.digits) +
    (d.place - 167))
all_length d =
    omega (
      arith,
      length-append (replicate (fraction_length d + 1 - length (digits_to_ones d)) 48) (digits_to_ones d),
      length-append (decimal d.digits) (replicate (d.place - 167) 48),
      length-replicate {A = ℕ} (fraction_length d + 1 - length (digits_to_ones d)) 48,
      length-replicate {A = ℕ} (d.place - 167) 48,
    )

pub text_length : (d : Decimal) → length (normal_text d) ≡ one_if d.negative + max (fraction_length d + 1)
    (length (decimal d.digits) + (d.place - 167)) + one_if (some (fraction_length d))
unfolding normal_text normal_numeral
text_length d =
    let sign : List ℕ = sign_text (if d.negative then minus else unmarked) in
    let whole : List ℕ = take (whole_length d) (all_digits d) in
    let behind : List ℕ = drop (whole_length d) (all_digits d) in
    let fraction : List ℕ = fraction_text (fraction_with behind) in
    let rest : length behind ≡ fraction_length d = omega (
      arith,
      length-drop (whole_length d) (all_digits d),
      all_length d,
    ) in
    omega (
      arith,
      length-append sign (whole ++ (fraction ++ [])),
      length-append whole (fraction ++ []),
      length-append fraction [],
      sign_length_is d.negative,
      fraction_length_is behind,
      ap (λ n. one_if (some n)) rest,
      rest,
      length-take (whole_length d) (all_digits d),
      all_length d,
    )

-- the text is ASCII
fraction_ascii : (cs : List ℕ) → IsAscii cs → IsAscii (fraction_text (fraction_with cs))
fraction_ascii [] h = IsAscii-nil
fraction_ascii (c ∷ cs) h = IsAscii-cons 46 (c ∷ cs) (omega arith) h

sign_ascii : (b : Bool) → IsAscii (sign_text (if b then minus else unmarked))
sign_ascii true = IsAscii-cons 45 [] (omega arith) IsAscii-nil
sign_ascii false = IsAscii-nil

pub normal_text_ascii : (d : Decimal) → d.digits < 10 ^ 38 → IsAscii (normal_text d)
unfolding normal_text normal_numeral
normal_text_ascii d few =
    let all : IsAscii (all_digits d) = IsAscii-append (replicate (fraction_length d + 1 - length (digits_to_ones d))
    48) (digits_to_ones d) (zeros_ascii (fraction_length d + 1 - length (digits_to_ones d)))
    (IsAscii-append (decimal d.digits) (replicate (d.place - 167) 48) (IsAscii-decimal_wide d.digits
    (omega arith)) (zeros_ascii (d.place - 167))) in
    let sign : List ℕ = sign_text (if d.negative then minus else unmarked) in
    let whole : List ℕ = take (whole_length d) (all_digits d) in
    let fraction : List ℕ = fraction_text (fraction_with (drop (whole_length d) (all_digits d))) in
    IsAscii-append sign (whole ++ (fraction ++ [])) (sign_ascii d.negative) (IsAscii-append whole (fraction ++ [])
    (IsAscii-take (all_digits d) (whole_length d) all) (IsAscii-append fraction []
    (fraction_ascii (drop (whole_length d) (all_digits d)) (IsAscii-drop (all_digits d) (whole_length d) all))
    IsAscii-nil))

byte_is : (b : Bool) → bool_byte b ≡ one_if b
byte_is true = refl
byte_is false = refl

is_positive : (n : ℕ) → 0 < n → ltb 0 n ≡ true
is_positive n h = grind (arith, nat_tests)

point_is : (n : ℕ) → bool_byte (ltb 0 n) ≡ one_if (some n)
point_is zero = refl
point_is (suc n) = ap bool_byte (is_positive (suc n) (omega arith))

pub text_length_by : (d : Decimal) (negative : Bool) (digits behind trailing count most sign point : ℕ) →
    negative ≡ d.negative → digits ≡ d.digits → behind ≡ 167 - d.place → trailing ≡ d.place - 167 →
    count ≡ length (decimal digits) → most ≡ max (behind + 1) (count + trailing) → sign ≡ bool_byte negative →
    point ≡ bool_byte (ltb 0 behind) → sign + most + point ≡ length (normal_text d)
text_length_by d negative digits behind trailing count most sign point e f g h i j k l =
    let sign_is : sign ≡ one_if d.negative = k ∙ byte_is negative ∙ ap one_if e in
    let point_is : point ≡ one_if (some (fraction_length d)) = l ∙ point_is behind ∙ ap (λ n. one_if (some n)) g in
    let count_is : count ≡ length (decimal d.digits) = i ∙ ap (λ n. length (decimal n)) f in
    omega (arith, text_length d)
