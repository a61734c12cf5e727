-- Lists of digits: zeros at either end, and the number that they are.
use Rattle.std.proofs.Common.{◌≡◌, ◌≢◌, ℕ, zero, suc, ◌+◌, ◌-◌, ◌*◌, ◌^◌, ◌<◌, ◌≤◌, min, Bool, true, false, ◌&&◌}
use Rattle.std.proofs.Common.{List, [], ◌∷◌, ◌++◌, length, reverse, refl, sym, ap, ◌∙◌, subst, arith, ◌⊎◌, inl, inr}
use Rattle.std.proofs.Common.{append-nil, pow-suc, length-append}
use Rattle.std.proofs.Math.Nat.{pow-le-pow_right}
use Rattle.std.proofs.lemmas.List.{reverse-append, reverse-reverse, length-reverse, nil_from_length}
use Rattle.std.proofs.lemmas.Bool.Decides.{nat_tests, eqb_tells}
use Rattle.std.proofs.lemmas.Nat.{mul-le, pow-add}
use Rattle.std.specs.Str.{all_ascii_digits}
use Rattle.std.specs.Char.{is_ascii_digit}
use Rattle.dbe_num.specs.Numeral.{without_front_zeros, without_end_zeros, whole_number, whole_number_after}

-- zeros at the front
pub without_front_zeros_other : (c : ℕ) (cs : List ℕ) → c ≢ 48 → without_front_zeros (c ∷ cs) ≡ c ∷ cs
without_front_zeros_other c cs h = elim (eqb_tells c 48) [ inl p ↦ absurd (h p.1) | inr p ↦ rw p.0 ]

-- digits of which none is left, and others
pub without_front_zeros_past : (cs ds : List ℕ) → length (without_front_zeros cs) ≡ 0 →
    without_front_zeros (cs ++ ds) ≡ without_front_zeros ds
without_front_zeros_past [] ds h = refl
without_front_zeros_past (c ∷ cs) ds h =
    elim (eqb_tells c 48) [
      | inl p ↦ rw p.0 (without_front_zeros_past cs ds (rw p.0 at h))
      | inr p ↦ (let k : suc (length cs) ≡ 0 = rw p.0 at h in absurd (omega arith))
    ]

-- digits of which some are left, and others
pub without_front_zeros_within : (cs ds : List ℕ) → 0 < length (without_front_zeros cs) →
    without_front_zeros (cs ++ ds) ≡ without_front_zeros cs ++ ds
without_front_zeros_within [] ds h = absurd (omega arith)
without_front_zeros_within (c ∷ cs) ds h =
    elim (eqb_tells c 48) [
      | inl p ↦ rw p.0 (without_front_zeros_within cs ds (rw p.0 at h))
      | inr p ↦ rw p.0
    ]

-- zeros at the end
pub without_end_zeros_past : (cs ds : List ℕ) → length (without_end_zeros ds) ≡ 0 →
    without_end_zeros (cs ++ ds) ≡ without_end_zeros cs
without_end_zeros_past cs ds h =
    ap (λ xs. reverse (without_front_zeros xs)) (reverse-append cs ds)
    ∙ ap reverse (without_front_zeros_past (reverse ds) (reverse cs)
    (sym (length-reverse (without_front_zeros (reverse ds))) ∙ h))

pub without_end_zeros_within : (cs ds : List ℕ) → 0 < length (without_end_zeros ds) →
    without_end_zeros (cs ++ ds) ≡ cs ++ without_end_zeros ds
without_end_zeros_within cs ds h =
    ap (λ xs. reverse (without_front_zeros xs)) (reverse-append cs ds)
    ∙ ap reverse (without_front_zeros_within (reverse ds) (reverse cs)
    (subst (λ n. 0 < n) (length-reverse (without_front_zeros (reverse ds))) h))
    ∙ reverse-append (without_front_zeros (reverse ds)) (reverse cs)
    ∙ ap (λ xs. xs ++ without_end_zeros ds) (reverse-reverse cs)

-- the same, as the code takes the two parts
pub joined_past : (cs ds r s : List ℕ) → r ≡ without_front_zeros cs → s ≡ without_front_zeros ds → length r ≡ 0 →
    r ++ s ≡ without_front_zeros (cs ++ ds)
joined_past cs ds r s e f h =
    let k : length (without_front_zeros cs) ≡ 0 = sym (ap length e) ∙ h in
    rw (nil_from_length r h) (f ∙ sym (without_front_zeros_past cs ds k))

pub joined_within : (cs ds r : List ℕ) → r ≡ without_front_zeros cs → length r ≢ 0 →
    r ++ ds ≡ without_front_zeros (cs ++ ds)
joined_within cs ds r e h =
    let k : 0 < length (without_front_zeros cs) = omega (arith, ap length e) in
    rw e (sym (without_front_zeros_within cs ds k))

pub joined_end_past : (cs ds r s : List ℕ) → r ≡ without_end_zeros cs → s ≡ without_end_zeros ds → length s ≡ 0 →
    r ++ s ≡ without_end_zeros (cs ++ ds)
joined_end_past cs ds r s e f h =
    let k : length (without_end_zeros ds) ≡ 0 = sym (ap length f) ∙ h in
    rw (nil_from_length s h) (append-nil r ∙ e ∙ sym (without_end_zeros_past cs ds k))

pub joined_end_within : (cs ds s : List ℕ) → s ≡ without_end_zeros ds → length s ≢ 0 →
    cs ++ s ≡ without_end_zeros (cs ++ ds)
joined_end_within cs ds s f h =
    let k : 0 < length (without_end_zeros ds) = omega (arith, ap length f) in
    rw f (sym (without_end_zeros_within cs ds k))

-- digits never make the number smaller
pub whole_number_grows : (n : ℕ) (cs : List ℕ) → n ≤ whole_number_after n cs
whole_number_grows n [] = omega arith
whole_number_grows n (c ∷ cs) = omega (arith, whole_number_grows (n * 10 + (c - 48)) cs)

either_way : (a b : ℕ) → (a ≤ b) ⊎ (b ≤ a)
either_way a b = grind arith

-- reading on from n or from a bound that n is past
pub capped_step : (n most : ℕ) (cs : List ℕ) → min (whole_number_after (min n most) cs) most ≡ min
    (whole_number_after n cs) most
capped_step n most cs =
    elim (either_way n most) [
      | inl p ↦ (let e : min n most ≡ n = omega arith in rw e)
      | inr p ↦ (let e : min n most ≡ most = omega arith in
          rw e (omega (arith, whole_number_grows n cs, whole_number_grows most cs)))
    ]

-- digits read in two parts
pub whole_number_parts : (n : ℕ) (cs ds : List ℕ) → whole_number_after n (cs ++ ds) ≡ whole_number_after
    (whole_number_after n cs) ds
whole_number_parts n [] ds = refl
whole_number_parts n (c ∷ cs) ds = whole_number_parts (n * 10 + (c - 48)) cs ds

both_true : (a b : Bool) → a && b ≡ true → (a ≡ true) × (b ≡ true)
both_true true b h = (refl, h)
both_true false b h = absurd (cc)

pub digit_range : (c : ℕ) → is_ascii_digit c ≡ true → (48 ≤ c) × (c ≤ 57)
digit_range c h = (grind (arith, nat_tests), grind (arith, nat_tests))

pub first_is_digit : (c : ℕ) (cs : List ℕ) → all_ascii_digits (c ∷ cs) ≡ true → is_ascii_digit c ≡ true
first_is_digit c cs h = (both_true (is_ascii_digit c) (all_ascii_digits cs) h).0

pub others_are_digits : (c : ℕ) (cs : List ℕ) → all_ascii_digits (c ∷ cs) ≡ true → all_ascii_digits cs ≡ true
others_are_digits c cs h = (both_true (is_ascii_digit c) (all_ascii_digits cs) h).1

pub front_digits : (cs ds : List ℕ) → all_ascii_digits (cs ++ ds) ≡ true → all_ascii_digits cs ≡ true
front_digits [] ds h = refl
front_digits (c ∷ cs) ds h = rw (first_is_digit c (cs ++ ds) h, front_digits cs ds (others_are_digits c (cs ++ ds) h))

pub back_digits : (cs ds : List ℕ) → all_ascii_digits (cs ++ ds) ≡ true → all_ascii_digits ds ≡ true
back_digits [] ds h = h
back_digits (c ∷ cs) ds h = back_digits cs ds (others_are_digits c (cs ++ ds) h)

pub ten_pow_pos : (k : ℕ) → 1 ≤ 10 ^ k
ten_pow_pos zero = omega arith
ten_pow_pos (suc k) = rw pow-suc (omega (arith, ten_pow_pos k))

-- one more digit leaves room for those after it
pub room_step : (n c k : ℕ) → c ≤ 57 → (n * 10 + (c - 48) + 1) * 10 ^ k ≤ (n + 1) * 10 ^ suc k
room_step n c k h =
    let p : n * 10 + (c - 48) + 1 ≤ (n + 1) * 10 = omega arith in
    rw pow-suc (omega (arith, mul-le (n * 10 + (c - 48) + 1) (10 ^ k) ((n + 1) * 10) (10 ^ k) p (omega arith)))

-- there is room for one more digit at least
pub room_now : (n k : ℕ) → (n + 1) * 10 ≤ (n + 1) * 10 ^ suc k
room_now n k =
    rw pow-suc (omega (arith, mul-le (n + 1) 10 (n + 1) (10 ^ k * 10) (omega arith) (omega (arith, ten_pow_pos k))))

-- a number is below the power of ten of its length
pub whole_number_below : (n : ℕ) (cs : List ℕ) → all_ascii_digits cs ≡ true →
    whole_number_after n cs + 1 ≤ (n + 1) * 10 ^ length cs
whole_number_below n [] h = omega arith
whole_number_below n (c ∷ cs) h =
    omega (
      arith,
      whole_number_below (n * 10 + (c - 48)) cs (others_are_digits c cs h),
      room_step n c (length cs) (digit_range c (first_is_digit c cs h)).1,
    )

-- one more digit d, which the code took from c
pub number_step : (n c d : ℕ) (cs ds : List ℕ) → ds ≡ c ∷ cs → d ≡ c - 48 →
    whole_number_after (n * 10 + d) cs ≡ whole_number_after n ds
number_step n c d cs ds e f = rw (e, f)

pub capped_number_step : (n c d r most : ℕ) (cs ds : List ℕ) → ds ≡ c ∷ cs → d ≡ c - 48 → r ≡ min (n * 10 + d) most →
    min (whole_number_after r cs) most ≡ min (whole_number_after n ds) most
capped_number_step n c d r most cs ds e f g = rw (g, e, f, capped_step (n * 10 + (c - 48)) most cs)

pub digits_step : (c : ℕ) (cs ds : List ℕ) → ds ≡ c ∷ cs → all_ascii_digits ds ≡ true → all_ascii_digits cs ≡ true
digits_step c cs ds e h = others_are_digits c cs (rw e at h)

-- a digit, with room for those after it
pub record HasRoom (n c d most : ℕ) (cs : List ℕ) : Type 0 where
  pub low : n * 10 + d < most
  pub others : (n * 10 + d + 1) * 10 ^ length cs ≤ most

pub has_room : (n c d most : ℕ) (cs ds : List ℕ) → ds ≡ c ∷ cs → d ≡ c - 48 → all_ascii_digits ds ≡ true →
    (n + 1) * 10 ^ length ds ≤ most → HasRoom n c d most cs
has_room n c d most cs ds e f h fits =
    let k : (n + 1) * 10 ^ suc (length cs) ≤ most = rw e at fits in
    let small : c ≤ 57 = (digit_range c (first_is_digit c cs (rw e at h))).1 in
    record {
      low = rw f (omega (arith, room_now n (length cs)));
      others = rw f (omega (arith, room_step n c (length cs) small));
    }

-- the second part of a number of k digits has room after the first
pub room_after : (r : ℕ) (cs ds : List ℕ) (k : ℕ) → r ≡ whole_number cs → all_ascii_digits cs ≡ true →
    length (cs ++ ds) ≤ k → (r + 1) * 10 ^ length ds ≤ 10 ^ k
room_after r cs ds k e h few =
    let below : r + 1 ≤ 10 ^ length cs = rw e (omega (arith, whole_number_below 0 cs h)) in
    let product : (r + 1) * 10 ^ length ds ≤ 10 ^ length cs * 10 ^ length ds =
    mul-le (r + 1) (10 ^ length ds) (10 ^ length cs) (10 ^ length ds) below (omega arith) in
    let joined : 10 ^ length cs * 10 ^ length ds ≡ 10 ^ (length cs + length ds) =
    sym (pow-add 10 (length cs) (length ds)) in
    let high : 10 ^ (length cs + length ds) ≤ 10 ^ k = pow-le-pow_right {n = 10} (omega arith) {i =
    length cs + length ds} {j = k} (omega (arith, length-append cs ds)) in
    omega arith

-- the first part of a number of k digits has room
pub room_first : (cs ds : List ℕ) (k : ℕ) → length (cs ++ ds) ≤ k → 1 * 10 ^ length cs ≤ 10 ^ k
room_first cs ds k few =
    let high : 10 ^ length cs ≤ 10 ^ k = pow-le-pow_right {n = 10} (omega arith) {i = length cs} {j =
    k} (omega (arith, length-append cs ds)) in
    omega arith
