-- The text of a number, as it is written piece by piece.
use Rattle.std.proofs.Common.{◌≡◌, ℕ, zero, suc, ◌^◌, ◌<◌, Bool, true, false, List, [], ◌∷◌, ◌++◌, take, drop}
use Rattle.std.proofs.Common.{replicate, if◌then◌else◌, decimal, IsAscii, refl, sym, ap, ◌∙◌, arith, append-nil}
use Rattle.std.proofs.Common.{append_assoc}
use Rattle.std.proofs.lemmas.Str.{IsAscii-append}
use Rattle.std.proofs.lemmas.Str.Ascii.{IsAscii-nil, IsAscii-cons}
use Rattle.std.proofs.lemmas.Fmt.{IsAscii-decimal_wide}
use Rattle.dbe_num.specs.Decimal.{Decimal}
use Rattle.dbe_num.specs.Numeral.{fraction_text, sign_text, minus, unmarked}
use Rattle.dbe_num.specs.NormalText.{all_digits, whole_length, fraction_with, normal_numeral, normal_text}

pub zeros_ascii : (n : ℕ) → IsAscii (replicate n 48)
zeros_ascii zero = IsAscii-nil
zeros_ascii (suc n) = IsAscii-cons 48 (replicate n 48) (omega arith) (zeros_ascii n)

pub ascii_written : (n a k : ℕ) (none front digits whole all : List ℕ) → none ≡ [] → front ≡ none ++ replicate a 48 →
    digits ≡ decimal n → whole ≡ front ++ digits → all ≡ whole ++ replicate k 48 → n < 10 ^ 38 → IsAscii all
ascii_written n a k none front digits whole all e f g h i few =
    let in_front : IsAscii front = rw (f, e) (zeros_ascii a) in
    let of_digits : IsAscii digits = rw g (IsAscii-decimal_wide n (omega arith)) in
    rw (i, h) (IsAscii-append (front ++ digits) (replicate k 48) (IsAscii-append front digits in_front of_digits)
    (zeros_ascii k))

sign_is : (b : Bool) → (if b then 45 ∷ [] else []) ≡ sign_text (if b then minus else unmarked)
sign_is true = refl
sign_is false = refl

pub text_written : (d : Decimal) (sign whole pushed fraction final digits : List ℕ) (at_point : ℕ) →
    final ≡ pushed ++ fraction_text (fraction_with fraction) → pushed ≡ sign ++ whole → whole ≡ take at_point digits →
    fraction ≡ drop at_point digits → digits ≡ all_digits d → at_point ≡ whole_length d →
    sign ≡ (if d.negative then 45 ∷ [] else []) → final ≡ normal_text d
unfolding normal_text normal_numeral
text_written d sign whole pushed fraction final digits at_point e f g h i j k =
    let signed : List ℕ = sign_text (if d.negative then minus else unmarked) in
    let front : List ℕ = take (whole_length d) (all_digits d) in
    let back : List ℕ = fraction_text (fraction_with (drop (whole_length d) (all_digits d))) in
    rw (e, f, k, sign_is d.negative, g, h, j, i) (append_assoc signed front back ∙
    ap (λ x. signed ++ (front ++ x)) (sym (append-nil back)))
