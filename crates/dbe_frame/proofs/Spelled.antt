-- The fields that a format takes in full are those of what they mean.
use Rattle.std.proofs.Common.{◌≡◌, ℕ, zero, suc, ◌≤◌, ◌<◌, ◌^◌, Bool, true, List, [], ◌∷◌, ◌++◌, length, map, get_or}
use Rattle.std.proofs.Common.{Option, Some, None, refl, sym, ap, subst, ◌∙◌, append-nil, arith}
use Rattle.std.specs.Int.{w16, from_be_bytes, to_be_bytes}
use Rattle.std.specs.List.{AllByRecursion, flat_map}
use Rattle.std.specs.List.Sorted.{IsStrictlySortedBy}
use Rattle.std.specs.Ordering.{nat_cmp, is_lt}
use Rattle.std.specs.declared.cmp.Ordering.{Ordering}
use Rattle.std.specs.declared.cmp.Ordering.TheVariants.{Less, Equal, Greater}
use Rattle.std.specs.Cmp.Lexicographic.{slice_cmp}
use Rattle.std.proofs.lemmas.Cmp.{nat_list_cmp_total}
use Rattle.std.proofs.lemmas.List.Concat.{flat_map-cons}
use Rattle.std.proofs.lemmas.Nat.{be_bytes_2, from_be_bytes-to_be_bytes_2}
use Rattle.dbe_rawring.specs.Edk.{EdkParts, IsShort, IsEdk}
use Rattle.dbe_frame.specs.Format.{Format, ends, joined, Spells, bytes_that, any_bytes, byte_that, number, string, many}
use Rattle.dbe_frame.specs.Header.{comes_after, edk, pairs_after, IsShortPair, short_number, string_fields}
use Rattle.dbe_frame.specs.Header.{pair_fields, edk_fields}
use Rattle.dbe_frame.proofs.Follow.{followed}
use Rattle.dbe_frame.proofs.Formats.{Spells-then, Spells-split}
use Rattle.dbe_frame.proofs.Ties.{key_format, pair_format}

-- ---- each number is a byte

abbrev pub Fits : List ℕ → Type 0
Fits bytes = AllByRecursion (λ b. b < 256) bytes

abbrev pub EachFits : List (List ℕ) → Type 0
EachFits fields = AllByRecursion Fits fields

pub Fits-front : (xs ys : List ℕ) → Fits (xs ++ ys) → Fits xs
Fits-front [] ys h = tt
Fits-front (x ∷ xs) ys h = (h.0, Fits-front xs ys h.1)

Fits-back : (xs ys : List ℕ) → Fits (xs ++ ys) → Fits ys
Fits-back [] ys h = h
Fits-back (x ∷ xs) ys h = Fits-back xs ys h.1

pub each_fits : (fields : List (List ℕ)) → Fits (joined fields) → EachFits fields
each_fits [] h = tt
each_fits (b ∷ fields) h = (Fits-front b (joined fields) h, each_fits fields (Fits-back b (joined fields) h))

pub EachFits-front : (xs ys : List (List ℕ)) → EachFits (xs ++ ys) → EachFits xs
EachFits-front [] ys h = tt
EachFits-front (x ∷ xs) ys h = (h.0, EachFits-front xs ys h.1)

pub EachFits-back : (xs ys : List (List ℕ)) → EachFits (xs ++ ys) → EachFits ys
EachFits-back [] ys h = h
EachFits-back (x ∷ xs) ys h = EachFits-back xs ys h.1

fits_at : (bytes : List ℕ) → Fits bytes → (i : ℕ) → get_or bytes i 0 < 256
fits_at [] h i = omega arith
fits_at (b ∷ bytes) h zero = h.0
fits_at (b ∷ bytes) h (suc i) = fits_at bytes h.1 i

-- ---- what fields mean

pub ends_one : {A : Type 0} (x : A) (fields : List (List ℕ)) (y : A) → Spells (ends x) fields y → (fields ≡ []) ×
    (y ≡ x)
ends_one x [] y s = (refl, s)
ends_one x (b ∷ fields) y s = absurd s

pub bytes_one : (n : ℕ) (test : List ℕ → Bool) (fields : List (List ℕ)) (x : List ℕ) →
    Spells (bytes_that n test) fields x → (fields ≡ x ∷ []) × (length x ≡ n) × (test x ≡ true)
bytes_one n test [] x s = absurd s
bytes_one n test (b ∷ []) x s = subst (λ (y : List ℕ). ((b ∷ []) ≡ y ∷ []) × (length y ≡ n) ×
    (test y ≡ true)) (sym s.2) (refl, s.0, s.1)
bytes_one n test (b ∷ c ∷ fields) x s = absurd s.2

byte_is : (test : ℕ → Bool) (b : List ℕ) (x : ℕ) → length b ≡ 1 → test (get_or b 0 0) ≡ true → x ≡ get_or b 0 0 →
    ((b ∷ []) ≡ (x ∷ []) ∷ []) × (test x ≡ true)
byte_is test [] x size passes is = absurd (omega arith)
byte_is test (y ∷ []) x size passes is = subst (λ (z : ℕ). (((y ∷ []) ∷ []) ≡ (z ∷ []) ∷ []) ×
    (test z ≡ true)) (sym is) (refl, passes)
byte_is test (y ∷ z ∷ b) x size passes is = absurd (omega arith)

pub byte_one : (test : ℕ → Bool) (fields : List (List ℕ)) (x : ℕ) → Spells (byte_that test) fields x →
    (fields ≡ (x ∷ []) ∷ []) × (test x ≡ true)
byte_one test [] x s = absurd s
byte_one test (b ∷ []) x s = byte_is test b x s.0 s.1 s.2
byte_one test (b ∷ c ∷ fields) x s = absurd s.2

pub number_one : (fields : List (List ℕ)) (n : ℕ) → Spells number fields n → EachFits fields →
    (fields ≡ short_number n ∷ []) × (n ≤ 65535)
number_one [] n s h = absurd s
number_one (b ∷ []) n s h =
    let at = fits_at b h.0 in
    let same : to_be_bytes w16 n ≡ b = be_bytes_2 b n s.0 at s.2 in
    let first : get_or b 0 0 < 256 = at 0 in
    let second : get_or b 1 0 < 256 = at 1 in
    let small : from_be_bytes w16 b ≤ 65535 = omega arith in
    (ap (λ (c : List ℕ). c ∷ []) (sym same), omega (arith, s.2, small))
number_one (b ∷ c ∷ fields) n s h = absurd s.2

pub string_one : (fields : List (List ℕ)) (x : List ℕ) → Spells string fields x → EachFits fields →
    (fields ≡ string_fields x) × IsShort x
string_one fields x s h =
    let r = Spells-split number (λ n. any_bytes n) fields x s in
    let fits = subst EachFits r.parts h in
    let n = number_one r.front r.meaning r.first (EachFits-front r.front r.back fits) in
    let b = bytes_one r.meaning (λ bytes. true) r.back x r.second in
    let front : r.front ≡ short_number (length x) ∷ [] = n.0 ∙ ap (λ (k : ℕ). short_number k ∷ []) (sym b.1) in (
      r.parts ∙ ap (λ (f : List (List ℕ)). f ++ r.back) front ∙ ap (λ (g : List (List ℕ)). short_number (length x) ∷ g)
          b.0,
      omega (arith, n.1, b.1),
    )

pub key_one : (before : Option (List ℕ)) (fields : List (List ℕ)) (x : List ℕ) → Spells (key_format before) fields x →
    EachFits fields → (fields ≡ string_fields x) × IsShort x × (comes_after before x ≡ true)
key_one before fields x s h =
    let r = Spells-split number (λ n. bytes_that n (comes_after before)) fields x s in
    let fits = subst EachFits r.parts h in
    let n = number_one r.front r.meaning r.first (EachFits-front r.front r.back fits) in
    let b = bytes_one r.meaning (comes_after before) r.back x r.second in
    let front : r.front ≡ short_number (length x) ∷ [] = n.0 ∙ ap (λ (k : ℕ). short_number k ∷ []) (sym b.1) in (
      r.parts ∙ ap (λ (f : List (List ℕ)). f ++ r.back) front ∙ ap (λ (g : List (List ℕ)). short_number (length x) ∷ g)
          b.0,
      omega (arith, n.1, b.1),
      b.2,
    )

pub pair_one : (before : Option (List ℕ)) (fields : List (List ℕ)) (x : List ℕ × List ℕ) →
    Spells (pair_format before) fields x → EachFits fields → (fields ≡ pair_fields x) × IsShortPair x ×
    (comes_after before x.0 ≡ true)
pair_one before fields x s h =
    let r = Spells-split (key_format before) (λ key. followed string (λ value. ends (key, value))) fields x s in
    let fits = subst EachFits r.parts h in
    let k = key_one before r.front r.meaning r.first (EachFits-front r.front r.back fits) in
    let behind = EachFits-back r.front r.back fits in
    let q = Spells-split string (λ value. ends (r.meaning, value)) r.back x r.second in
    let v = string_one q.front q.meaning q.first (EachFits-front q.front q.back (subst EachFits q.parts behind)) in
    let e = ends_one (r.meaning, q.meaning) q.back x q.second in
    let back : r.back ≡ string_fields q.meaning = q.parts ∙ ap (λ (f : List (List ℕ)). f ++ q.back) v.0 ∙
    ap (λ (g : List (List ℕ)). string_fields q.meaning ++ g) e.0 in
    let all : fields ≡ pair_fields (r.meaning, q.meaning) = r.parts ∙ ap (λ (f : List (List ℕ)). f ++ r.back) k.0 ∙
    ap (λ (g : List (List ℕ)). string_fields r.meaning ++ g) back in
    subst (λ (y : List ℕ × List ℕ). (fields ≡ pair_fields y) × IsShortPair y × (comes_after before y.0 ≡ true))
    (sym e.1) (all, (k.1, v.1), k.2)

pub edk_one : (fields : List (List ℕ)) (x : EdkParts) → Spells edk fields x → EachFits fields →
    (fields ≡ edk_fields x) × IsEdk x
edk_one fields x s h =
    let made : List ℕ → List ℕ → List ℕ → EdkParts = λ p i c. record { provider = p; info = i; ciphertext = c } in
    let p = Spells-split string (λ p. followed string (λ i. followed string (λ c. ends (made p i c)))) fields x s in
    let hp = subst EachFits p.parts h in
    let ps = string_one p.front p.meaning p.first (EachFits-front p.front p.back hp) in
    let i = Spells-split string (λ i. followed string (λ c. ends (made p.meaning i c))) p.back x p.second in
    let hi = subst EachFits i.parts (EachFits-back p.front p.back hp) in
    let is = string_one i.front i.meaning i.first (EachFits-front i.front i.back hi) in
    let c = Spells-split string (λ c. ends (made p.meaning i.meaning c)) i.back x i.second in
    let hc = subst EachFits c.parts (EachFits-back i.front i.back hi) in
    let cs = string_one c.front c.meaning c.first (EachFits-front c.front c.back hc) in
    let e = ends_one (made p.meaning i.meaning c.meaning) c.back x c.second in
    let c_back : i.back ≡ string_fields c.meaning = c.parts ∙ ap (λ (f : List (List ℕ)). f ++ c.back) cs.0 ∙
    ap (λ (g : List (List ℕ)). string_fields c.meaning ++ g) e.0 in
    let i_back : p.back ≡ string_fields i.meaning ++ string_fields c.meaning = i.parts ∙
    ap (λ (f : List (List ℕ)). f ++ i.back) is.0 ∙ ap (λ (g : List (List ℕ)). string_fields i.meaning ++ g) c_back
    in
    let all : fields ≡ edk_fields (made p.meaning i.meaning c.meaning) = p.parts ∙
    ap (λ (f : List (List ℕ)). f ++ p.back) ps.0 ∙ ap (λ (g : List (List ℕ)). string_fields p.meaning ++ g) i_back
    in
    subst (λ (y : EdkParts). (fields ≡ edk_fields y) × IsEdk y) (sym e.1) (
      all,
      record {
        provider = ps.1;
        info = is.1;
        ciphertext = cs.1;
      },
    )

-- so many of one format
pub many_one : {X : Type 0} (one : Format X) (fields_of : X → List (List ℕ)) (P : X → Type 0) →
    ((fields : List (List ℕ)) (x : X) → Spells one fields x → EachFits fields → (fields ≡ fields_of x) × P x)
    → (n : ℕ) (fields : List (List ℕ)) (xs : List X) → Spells (many n one) fields xs → EachFits fields →
    (fields ≡ flat_map fields_of xs) × (length xs ≡ n) × AllByRecursion P xs
many_one {X} one fields_of P single zero fields xs s h =
    let e = ends_one [] fields xs s in
    subst (λ (ys : List X). (fields ≡ flat_map fields_of ys) × (length ys ≡ 0) × AllByRecursion P ys) (sym e.1) (
      e.0,
      refl,
      tt,
    )
many_one {X} one fields_of P single (suc n) fields xs s h =
    let r = Spells-split one (λ first. followed (many n one) (λ others. ends (first ∷ others))) fields xs s in
    let fits = subst EachFits r.parts h in
    let first = single r.front r.meaning r.first (EachFits-front r.front r.back fits) in
    let q = Spells-split (many n one) (λ others. ends (r.meaning ∷ others)) r.back xs r.second in
    let behind = subst EachFits q.parts (EachFits-back r.front r.back fits) in
    let others = many_one one fields_of P single n q.front q.meaning q.first (EachFits-front q.front q.back behind) in
    let e = ends_one (r.meaning ∷ q.meaning) q.back xs q.second in
    let back : r.back ≡ flat_map fields_of q.meaning = q.parts ∙ ap (λ (g : List (List ℕ)). q.front ++ g) e.0 ∙
    append-nil q.front ∙ others.0 in
    let all : fields ≡ flat_map fields_of (r.meaning ∷ q.meaning) = r.parts ∙
    ap (λ (f : List (List ℕ)). f ++ r.back) first.0 ∙ ap (λ (g : List (List ℕ)). fields_of r.meaning ++ g) back ∙
    sym (flat_map-cons fields_of r.meaning q.meaning) in
    subst (λ (ys : List X). (fields ≡ flat_map fields_of ys) × (length ys ≡ suc n) × AllByRecursion P ys) (sym e.1)
    (all, ap suc others.1, (first.1, others.2))

-- ---- pairs in order

-- each key is greater than the one before it
abbrev pub Rises : Option (List ℕ) → List (List ℕ × List ℕ) → Type 0
Rises before [] = Unit {0}
Rises before (p ∷ ps) = (comes_after before p.0 ≡ true) × Rises (Some p.0) ps

pub pairs_one : (before : Option (List ℕ)) (n : ℕ) (fields : List (List ℕ)) (xs : List (List ℕ × List ℕ)) →
    Spells (pairs_after before n) fields xs → EachFits fields
    → (fields ≡ flat_map pair_fields xs) × (length xs ≡ n) × AllByRecursion IsShortPair xs × Rises before xs
pairs_one before zero fields xs s h =
    let e = ends_one [] fields xs s in
    subst (λ (ys : List (List ℕ × List ℕ)). (fields ≡ flat_map pair_fields ys) × (length ys ≡ 0) ×
    AllByRecursion IsShortPair ys × Rises before ys) (sym e.1) (e.0, refl, tt, tt)
pairs_one before (suc n) fields xs s h =
    let r = Spells-split (pair_format before) (λ pair. followed (pairs_after (Some pair.0) n)
    (λ others. ends (pair ∷ others))) fields xs s in
    let fits = subst EachFits r.parts h in
    let first = pair_one before r.front r.meaning r.first (EachFits-front r.front r.back fits) in
    let q = Spells-split (pairs_after (Some r.meaning.0) n) (λ others. ends (r.meaning ∷ others)) r.back xs r.second in
    let behind = subst EachFits q.parts (EachFits-back r.front r.back fits) in
    let others = pairs_one (Some r.meaning.0) n q.front q.meaning q.first (EachFits-front q.front q.back behind) in
    let e = ends_one (r.meaning ∷ q.meaning) q.back xs q.second in
    let back : r.back ≡ flat_map pair_fields q.meaning = q.parts ∙ ap (λ (g : List (List ℕ)). q.front ++ g) e.0 ∙
    append-nil q.front ∙ others.0 in
    let all : fields ≡ flat_map pair_fields (r.meaning ∷ q.meaning) = r.parts ∙
    ap (λ (f : List (List ℕ)). f ++ r.back) first.0 ∙ ap (λ (g : List (List ℕ)). pair_fields r.meaning ++ g) back
    ∙ sym (flat_map-cons pair_fields r.meaning q.meaning) in
    subst (λ (ys : List (List ℕ × List ℕ)). (fields ≡ flat_map pair_fields ys) × (length ys ≡ suc n) ×
    AllByRecursion IsShortPair ys × Rises before ys) (sym e.1) (
      all,
      ap suc others.1,
      (first.1, others.2),
      (first.2, others.3),
    )

less : (o : Ordering) → is_lt o ≡ true → o ≡ Less
less Less e = refl
less Equal e = absurd cc
less Greater e = absurd cc

all_above : (k l : List ℕ) (ps : List (List ℕ × List ℕ)) → slice_cmp nat_cmp k l ≡ Less → Rises (Some l) ps →
    AllByRecursion (λ y. slice_cmp nat_cmp k y ≡ Less) (map (λ pair. pair.0) ps)
all_above k l [] lt h = tt
all_above k l (p ∷ ps) lt h =
    let here : slice_cmp nat_cmp k p.0 ≡ Less =
    nat_list_cmp_total.trans k l p.0 lt (less (slice_cmp nat_cmp l p.0) h.0) in
    (here, all_above k p.0 ps here h.1)

next_above : (l : List ℕ) (ps : List (List ℕ × List ℕ)) → Rises (Some l) ps →
    AllByRecursion (λ y. slice_cmp nat_cmp l y ≡ Less) (map (λ pair. pair.0) ps)
next_above l [] h = tt
next_above l (p ∷ ps) h =
    let here : slice_cmp nat_cmp l p.0 ≡ Less = less (slice_cmp nat_cmp l p.0) h.0 in
    (here, all_above l p.0 ps here h.1)

pub rises_sorted : (before : Option (List ℕ)) (ps : List (List ℕ × List ℕ)) → Rises before ps →
    IsStrictlySortedBy (slice_cmp nat_cmp) (map (λ pair. pair.0) ps)
unfolding IsStrictlySortedBy
rises_sorted before [] h = tt
rises_sorted before (p ∷ ps) h = (next_above p.0 ps h.1, rises_sorted (Some p.0) ps h.1)

rises_above : (k : List ℕ) (ps : List (List ℕ × List ℕ)) → AllByRecursion (λ y. slice_cmp nat_cmp k y ≡ Less)
    (map (λ pair. pair.0) ps) → IsStrictlySortedBy (slice_cmp nat_cmp) (map (λ pair. pair.0) ps) → Rises (Some k) ps
unfolding IsStrictlySortedBy
rises_above k [] h s = tt
rises_above k (p ∷ ps) h s = (ap is_lt h.0, rises_above p.0 ps s.0 s.1)

pub sorted_rises : (ps : List (List ℕ × List ℕ)) → IsStrictlySortedBy (slice_cmp nat_cmp) (map (λ pair. pair.0) ps) →
    Rises None ps
unfolding IsStrictlySortedBy
sorted_rises [] s = tt
sorted_rises (p ∷ ps) s = (refl, rises_above p.0 ps s.0 s.1)

-- ---- the fields of what has them

pub number_again : (n : ℕ) → n ≤ 65535 → Spells number (short_number n ∷ []) n
number_again n le =
    let lt : n < 2 ^ 16 = omega arith in
    (refl, refl, sym (from_be_bytes-to_be_bytes_2 n lt))

pub string_again : (x : List ℕ) → IsShort x → Spells string (string_fields x) x
string_again x short = Spells-then number (λ n. any_bytes n) (short_number (length x) ∷ []) (x ∷ []) (length x) x
    (number_again (length x) short) (refl, refl, refl)

-- a format, and behind it nothing but what both mean
pub Spells-last : {A B : Type 0} (m : Format A) (g : A → B) (fields : List (List ℕ)) (x : A) → Spells m fields x →
    Spells (followed m (λ y. ends (g y))) fields (g x)
Spells-last {A} {B} m g fields x s =
    subst (λ (f : List (List ℕ)). Spells (followed m (λ y. ends (g y))) f (g x)) (append-nil fields)
    (Spells-then m (λ y. ends (g y)) fields [] x (g x) s refl)

pub pair_again : (before : Option (List ℕ)) (x : List ℕ × List ℕ) → IsShortPair x → comes_after before x.0 ≡ true →
    Spells (pair_format before) (pair_fields x) x
pair_again before x short after =
    let key : Spells (key_format before) (string_fields x.0) x.0 =
    Spells-then number (λ n. bytes_that n (comes_after before)) (short_number (length x.0) ∷ []) (x.0 ∷ [])
    (length x.0) x.0 (number_again (length x.0) short.0) (refl, after, refl) in
    Spells-then (key_format before) (λ key. followed string (λ value. ends (key, value))) (string_fields x.0)
    (string_fields x.1) x.0 x key
    (Spells-last string (λ value. (x.0, value)) (string_fields x.1) x.1 (string_again x.1 short.1))

pub pairs_again : (before : Option (List ℕ)) (xs : List (List ℕ × List ℕ)) → AllByRecursion IsShortPair xs →
    Rises before xs → Spells (pairs_after before (length xs)) (flat_map pair_fields xs) xs
pairs_again before [] short rises = refl
pairs_again before (x ∷ xs) short rises =
    subst (λ (f : List (List ℕ)). Spells (pairs_after before (suc (length xs))) f (x ∷ xs))
    (sym (flat_map-cons pair_fields x xs))
    (Spells-then (pair_format before) (λ pair. followed (pairs_after (Some pair.0) (length xs))
    (λ others. ends (pair ∷ others))) (pair_fields x) (flat_map pair_fields xs) x (x ∷ xs)
    (pair_again before x short.0 rises.0)
    (Spells-last (pairs_after (Some x.0) (length xs)) (λ others. x ∷ others) (flat_map pair_fields xs) xs
    (pairs_again (Some x.0) xs short.1 rises.1)))

pub edk_again : (x : EdkParts) → IsEdk x → Spells edk (edk_fields x) x
edk_again x short =
    let made : List ℕ → List ℕ → List ℕ → EdkParts = λ p i c. record { provider = p; info = i; ciphertext = c } in
    Spells-then string (λ p. followed string (λ i. followed string (λ c. ends (made p i c))))
    (string_fields x.provider) (string_fields x.info ++ string_fields x.ciphertext) x.provider x
    (string_again x.provider short.provider)
    (Spells-then string (λ i. followed string (λ c. ends (made x.provider i c))) (string_fields x.info)
    (string_fields x.ciphertext) x.info x (string_again x.info short.info)
    (Spells-last string (λ c. made x.provider x.info c) (string_fields x.ciphertext) x.ciphertext
    (string_again x.ciphertext short.ciphertext)))

pub many_again : {X : Type 0} (one : Format X) (fields_of : X → List (List ℕ)) (P : X → Type 0) →
    ((x : X) → P x → Spells one (fields_of x) x)
    → (xs : List X) → AllByRecursion P xs → Spells (many (length xs) one) (flat_map fields_of xs) xs
many_again one fields_of P again [] h = refl
many_again {X} one fields_of P again (x ∷ xs) h =
    subst (λ (f : List (List ℕ)). Spells (many (suc (length xs)) one) f (x ∷ xs)) (sym (flat_map-cons fields_of x xs))
    (Spells-then one (λ first. followed (many (length xs) one) (λ others. ends (first ∷ others))) (fields_of x)
    (flat_map fields_of xs) x (x ∷ xs) (again x h.0)
    (Spells-last (many (length xs) one) (λ others. x ∷ others) (flat_map fields_of xs) xs (many_again one fields_of P
    again xs h.1)))
