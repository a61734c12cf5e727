-- A field at the front: what is read was spelled so, and what is spelled so is read.
use Rattle.std.proofs.Common.{◌≡◌, ℕ, ◌+◌, ◌^◌, ◌<◌, ◌≤◌, Bool, true, false, cond, ltb, List, ◌++◌, length, get_or}
use Rattle.std.proofs.Common.{take, drop, Option, Some, None, refl, sym, ap, subst, ◌∙◌, append_assoc, arith, inl}
use Rattle.std.proofs.Common.{inr}
use Rattle.std.specs.Int.{w64, from_be_bytes, to_be_bytes}
use Rattle.std.proofs.lemmas.Bool.{cases_lt, ltb-false, le-ltb}
use Rattle.std.proofs.lemmas.List.{take_at, drop_at, take-append-drop, length-append, length-take, get_or-drop}
use Rattle.std.proofs.lemmas.List.{get_or-take, get_or_past}
use Rattle.std.proofs.lemmas.Nat.{be_bytes_8, from_be_bytes-to_be_bytes_8}
use Rattle.dbe_canon.specs.Canon.{count_bytes, long_string}
use Rattle.dbe_canon.specs.Reading.{◌>>=◌, bytes_at, count_at, string_at}
use Rattle.dbe_canon.proofs.Appending.{count_bytes_length}

abbrev pub IsBytes : List ℕ → Type 0
IsBytes bytes = (i : ℕ) → get_or bytes i 0 < 256

IsBytes-drop : (n : ℕ) (bytes : List ℕ) → IsBytes bytes → IsBytes (drop n bytes)
IsBytes-drop n bytes h i = rw get_or-drop (h (n + i))

IsBytes-take : (n : ℕ) (bytes : List ℕ) → IsBytes bytes → IsBytes (take n bytes)
IsBytes-take n bytes h i =
    elim (cases_lt i n) [
      | inl lt ↦ rw (get_or-take n bytes i 0 lt) (h i)
      | inr le ↦ rw (get_or_past (take n bytes) i 0 (omega (arith, length-take n bytes))) (omega arith)
    ]

-- the value of a step that gave one
pub bind_some : {A B : Type 0} (r : Option A) (f : A → Option B) (y : B) → (r >>= f) ≡ Some y → (x : A) ×
    (r ≡ Some x) × (f x ≡ Some y)
bind_some (Some x) f y e = (x, refl, e)
bind_some None f y e = absurd cc

-- a test that let its value through
pub test_false : {A : Type 0} (b : Bool) (x y : A) → cond b None (Some x) ≡ Some y → (b ≡ false) × (x ≡ y)
test_false true x y e = absurd cc
test_false false x y e = (refl, cc)

pub test_true : {A : Type 0} (b : Bool) (x y : A) → cond b (Some x) None ≡ Some y → (b ≡ true) × (x ≡ y)
test_true true x y e = (refl, cc)
test_true false x y e = absurd cc

abbrev done : {A : Type 0} → A → Option A
done x = Some x

pub some_is : {A : Type 0} (x y : A) → done x ≡ done y → x ≡ y
some_is x y e = cc

-- what was taken from the front
pub record Takes (bytes text rest : List ℕ) : Type 0 where
  pub parts : bytes ≡ text ++ rest
  pub rest_fits : IsBytes rest

pub Takes-then : (a x b y c : List ℕ) → Takes a x b → Takes b y c → Takes a (x ++ y) c
Takes-then a x b y c p q = record {
  parts = p.parts ∙ ap (λ (t : List ℕ). x ++ t) q.parts ∙ sym (append_assoc x y c);
  rest_fits = q.rest_fits;
}

-- so many bytes
pub record IsBytesTaken (n : ℕ) (bytes text rest : List ℕ) : Type 0 where
  pub takes : Takes bytes text rest
  pub fits : IsBytes text
  pub count : length text ≡ n

pub bytes_takes : (n : ℕ) (bytes text rest : List ℕ) → IsBytes bytes → bytes_at n bytes ≡ Some (text, rest) →
    IsBytesTaken n bytes text rest
unfolding bytes_at
bytes_takes n bytes text rest fits e =
    let t = test_false (ltb (length bytes) n) (take n bytes, drop n bytes) (text, rest) e in
    let long : n ≤ length bytes = ltb-false _ _ t.0 in
    let whole : IsBytesTaken n bytes (take n bytes) (drop n bytes) = record {
      takes = record { parts = sym (take-append-drop n bytes); rest_fits = IsBytes-drop n bytes fits };
      fits = IsBytes-take n bytes fits;
      count = omega (arith, length-take n bytes);
    } in
    subst (λ (p : List ℕ × List ℕ). IsBytesTaken n bytes p.0 p.1) t.1 whole

pub bytes_again : (n : ℕ) (text rest : List ℕ) → length text ≡ n → bytes_at n (text ++ rest) ≡ Some (text, rest)
unfolding bytes_at
bytes_again n text rest len =
    let long : ltb (length (text ++ rest)) n ≡ false = le-ltb _ _ (omega (arith, length-append text rest)) in
    rw (long, take_at text rest n len, drop_at text rest n len) refl

-- a count
pub record IsCountTaken (n : ℕ) (bytes rest : List ℕ) : Type 0 where
  pub takes : Takes bytes (count_bytes n) rest
  pub short : n < 2 ^ 64

pub count_takes : (bytes : List ℕ) (n : ℕ) (rest : List ℕ) → IsBytes bytes → count_at bytes ≡ Some (n, rest) →
    IsCountTaken n bytes rest
unfolding count_at count_bytes
count_takes bytes n rest fits e =
    let b = bind_some (bytes_at 8 bytes) (λ x. Some (from_be_bytes w64 x.0, x.1)) (n, rest) e in
    let t = bytes_takes 8 bytes b.0.0 b.0.1 fits b.1 in
    let same = some_is (from_be_bytes w64 b.0.0, b.0.1) (n, rest) b.2 in
    let spelled : to_be_bytes w64 (from_be_bytes w64 b.0.0) ≡ b.0.0 = be_bytes_8 b.0.0 _ t.count t.fits refl in
    let low : from_be_bytes w64 b.0.0 < 2 ^ 64 = omega (
      arith,
      t.fits 0,
      t.fits 1,
      t.fits 2,
      t.fits 3,
      t.fits 4,
      t.fits 5,
      t.fits 6,
      t.fits 7,
    ) in
    let whole : IsCountTaken (from_be_bytes w64 b.0.0) bytes b.0.1 = record {
      takes = subst (λ (x : List ℕ). Takes bytes x b.0.1) (sym spelled) t.takes;
      short = low;
    } in
    subst (λ (p : ℕ × List ℕ). IsCountTaken p.0 bytes p.1) same whole

number_again : (n : ℕ) → n < 2 ^ 64 → from_be_bytes w64 (count_bytes n) ≡ n
unfolding count_bytes
number_again n short = from_be_bytes-to_be_bytes_8 n short

pub count_again : (n : ℕ) (rest : List ℕ) → n < 2 ^ 64 → count_at (count_bytes n ++ rest) ≡ Some (n, rest)
unfolding count_at
count_again n rest short =
    let read : bytes_at 8 (count_bytes n ++ rest) ≡ Some (count_bytes n, rest) =
    bytes_again 8 (count_bytes n) rest (count_bytes_length n) in
    rw (read, number_again n short) refl

-- bytes behind their length
pub record IsStringTaken (bytes text rest : List ℕ) : Type 0 where
  pub takes : Takes bytes (long_string text) rest
  pub fits : IsBytes text
  pub short : length text < 2 ^ 64

pub string_takes : (bytes text rest : List ℕ) → IsBytes bytes → string_at bytes ≡ Some (text, rest) →
    IsStringTaken bytes text rest
unfolding string_at
string_takes bytes text rest fits e =
    let b = bind_some (count_at bytes) (λ n. bytes_at n.0 n.1) (text, rest) e in
    let c = count_takes bytes b.0.0 b.0.1 fits b.1 in
    let t = bytes_takes b.0.0 b.0.1 text rest c.takes.rest_fits b.2 in
    record {
      takes = subst (λ (n : ℕ). Takes bytes (count_bytes n ++ text) rest) (sym t.count)
          (Takes-then bytes (count_bytes b.0.0) b.0.1 text rest c.takes t.takes);
      fits = t.fits;
      short = omega (arith, c.short, t.count);
    }

pub string_again : (text rest : List ℕ) → length text < 2 ^ 64 → string_at (long_string text ++ rest) ≡ Some (
  text,
  rest,
)
unfolding string_at
string_again text rest short =
    let regrouped : long_string text ++ rest ≡ count_bytes (length text) ++ (text ++ rest) =
    append_assoc (count_bytes (length text)) text rest in
    rw (regrouped, count_again (length text) (text ++ rest) short) (bytes_again (length text) text rest refl)
