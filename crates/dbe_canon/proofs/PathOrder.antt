-- The order of paths: what is the same in front does not count, and a big-endian number is ordered as a number.
use Rattle.std.proofs.Common.{◌≡◌, ℕ, zero, suc, ◌+◌, ◌*◌, ◌/◌, ◌%◌, ◌^◌, ◌<◌, List, [], ◌∷◌, ◌++◌, length, Ordering}
use Rattle.std.proofs.Common.{Less, Equal, Greater, nat_cmp, refl, sym, ap, ◌∙◌, arith, ◌⊎◌, inl, inr}
use Rattle.std.specs.Ordering.{ordering_then}
use Rattle.std.specs.Cmp.Lexicographic.{slice_cmp}
use Rattle.std.specs.Int.{byte_at, bytes_high_first}
use Rattle.std.proofs.Math.Nat.{pow-suc}
use Rattle.std.proofs.lemmas.Nat.{mul-le, mul-add-lt, mod-mul-add, mod_below, div-add-mod'}
use Rattle.std.proofs.lemmas.Bool.Decides.{nat_tests}
use Rattle.dbe_canon.specs.Canon.{count_bytes, long_string}
use Rattle.dbe_canon.specs.Path.{path_of, name_cmp}

cmp_less : (x y : ℕ) → x < y → nat_cmp x y ≡ Less
cmp_less x y h = grind (arith, nat_tests)

cmp_greater : (x y : ℕ) → y < x → nat_cmp x y ≡ Greater
cmp_greater x y h = grind (arith, nat_tests)

cmp_same : (x : ℕ) → nat_cmp x x ≡ Equal
cmp_same x = grind (arith, nat_tests)

three_ways : (x y : ℕ) → (x < y) ⊎ ((y < x) ⊎ (x ≡ y))
three_ways x y = grind arith

same_front : (front x y : List ℕ) → slice_cmp nat_cmp (front ++ x) (front ++ y) ≡ slice_cmp nat_cmp x y
same_front [] x y = refl
same_front (b ∷ front) x y = rw (cmp_same b) (same_front front x y)

-- a first byte before others
first_byte : (a b : ℕ) (x y : List ℕ) → slice_cmp nat_cmp (a ∷ x) (b ∷ y) ≡ ordering_then (nat_cmp a b)
    (slice_cmp nat_cmp x y)
first_byte a b x y =
    elim (three_ways a b) [
      | inl lt ↦ rw (cmp_less a b lt) refl
      | inr r ↦ elim r [ inl gt ↦ rw (cmp_greater a b gt) refl | inr e ↦ rw (e, cmp_same b) refl ]
    ]

then_assoc : (o p q : Ordering) → ordering_then o (ordering_then p q) ≡ ordering_then (ordering_then o p) q
then_assoc Less p q = refl
then_assoc Equal p q = refl
then_assoc Greater p q = refl

-- a number in two parts
pair_cmp : (a b r s w : ℕ) → r < w → s < w → ordering_then (nat_cmp a b) (nat_cmp r s) ≡ nat_cmp (a * w + r) (b * w + s)
pair_cmp a b r s w p q =
    elim (three_ways a b) [
      | inl lt ↦ rw (cmp_less a b lt) (sym (cmp_less (a * w + r) (b * w + s) (higher a b r s w p lt)))
      | inr t ↦
          elim t [
            | inl gt ↦ rw (cmp_greater a b gt) (sym (cmp_greater (a * w + r) (b * w + s) (higher b a s r w q gt)))
            | inr e ↦ rw (e, cmp_same b) (same_high b r s w)
          ]
    ]
  where
    higher : (a b r s w : ℕ) → r < w → a < b → a * w + r < b * w + s
    higher a b r s w p lt = (let more = mul-le (a + 1) w b w (omega arith) (omega arith) in omega arith)

    same_high : (b r s w : ℕ) → nat_cmp r s ≡ nat_cmp (b * w + r) (b * w + s)
    same_high b r s w =
        elim (three_ways r s) [
          | inl lt ↦ cmp_less r s lt ∙ sym (cmp_less (b * w + r) (b * w + s) (omega arith))
          | inr t ↦ elim t [
            | inl gt ↦ cmp_greater r s gt ∙ sym (cmp_greater (b * w + r) (b * w + s) (omega arith))
            | inr e ↦ rw e (cmp_same s ∙ sym (cmp_same (b * w + s)))
          ]
        ]

-- the digit at w, and those below it
digit_split : (n w : ℕ) → 0 < w → n % (w * 256) ≡ (n / w % 256) * w + n % w
digit_split n w some =
    let q : ℕ = n / w in
    let low : n % w < w = mod_below n w some in
    let below : (q % 256) * w + n % w < w * 256 = mul-add-lt (q % 256) w (n % w) 256 (omega arith) low in
    let whole : q * w + n % w ≡ n = div-add-mod' n w in
    let parts : q ≡ (q / 256) * 256 + q % 256 = omega arith in
    let spread : n ≡ (q / 256) * (w * 256) + ((q % 256) * w + n % w) = omega (arith, ap (λ t. t * w) parts) in
    ap (λ m. m % (w * 256)) spread ∙ mod-mul-add (q / 256) (w * 256) ((q % 256) * w + n % w) below

byte_is : (k n : ℕ) → byte_at k n ≡ n / 256 ^ k % 256
byte_is zero n = omega arith
byte_is (suc k) n = refl

some_pow : (k : ℕ) → 0 < 256 ^ k
some_pow zero = omega arith
some_pow (suc k) = (let more = some_pow k in rw pow-suc (omega arith))

bytes_cmp : (k m n : ℕ) (x y : List ℕ) → slice_cmp nat_cmp (bytes_high_first k m ++ x) (bytes_high_first k n ++ y) ≡
    ordering_then (nat_cmp (m % 256 ^ k) (n % 256 ^ k)) (slice_cmp nat_cmp x y)
bytes_cmp zero m n x y = (let a : m % 256 ^ 0 ≡ 0 = omega arith in let b : n % 256 ^ 0 ≡ 0 = omega arith in
    rw (a, b) refl)
bytes_cmp (suc k) m n x y =
    let w : ℕ = 256 ^ k in
    let power : 256 ^ suc k ≡ w * 256 = pow-suc 256 k in
    let digits : ordering_then (nat_cmp (byte_at k m) (byte_at k n)) (nat_cmp (m % w) (n % w)) ≡ nat_cmp
    (m % 256 ^ suc k) (n % 256 ^ suc k) =
    rw (byte_is k m, byte_is k n, power, digit_split m w (some_pow k), digit_split n w (some_pow k))
    (pair_cmp (m / w % 256) (n / w % 256) (m % w) (n % w) w (mod_below m w (some_pow k))
    (mod_below n w (some_pow k))) in
    first_byte (byte_at k m) (byte_at k n) (bytes_high_first k m ++ x) (bytes_high_first k n ++ y)
    ∙ ap (ordering_then (nat_cmp (byte_at k m) (byte_at k n))) (bytes_cmp k m n x y)
    ∙ then_assoc (nat_cmp (byte_at k m) (byte_at k n)) (nat_cmp (m % w) (n % w)) (slice_cmp nat_cmp x y)
    ∙ ap (λ o. ordering_then o (slice_cmp nat_cmp x y)) digits

counts_cmp : (m n : ℕ) (x y : List ℕ) → m < 2 ^ 64 → n < 2 ^ 64 →
    slice_cmp nat_cmp (count_bytes m ++ x) (count_bytes n ++ y) ≡ ordering_then (nat_cmp m n) (slice_cmp nat_cmp x y)
unfolding count_bytes
counts_cmp m n x y p q =
    let a : m % 256 ^ 8 ≡ m = omega arith in
    let b : n % 256 ^ 8 ≡ n = omega arith in
    bytes_cmp 8 m n x y ∙ ap (λ k. ordering_then (nat_cmp k (n % 256 ^ 8)) (slice_cmp nat_cmp x y)) a ∙
    ap (λ k. ordering_then (nat_cmp m k) (slice_cmp nat_cmp x y)) b

pub paths_in_order : (table a b : List ℕ) → length a < 2 ^ 64 → length b < 2 ^ 64 →
    slice_cmp nat_cmp (path_of table a) (path_of table b) ≡ name_cmp a b
paths_in_order table a b p q =
    same_front (long_string table) (count_bytes 1 ++ (36 ∷ long_string a)) (count_bytes 1 ++ (36 ∷ long_string b))
    ∙ same_front (count_bytes 1) (36 ∷ long_string a) (36 ∷ long_string b)
    ∙ same_front (36 ∷ []) (long_string a) (long_string b)
    ∙ counts_cmp (length a) (length b) a b p q
