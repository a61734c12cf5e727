-- How many bytes are written, up to the greatest number of 64 bits.
use Rattle.std.proofs.Common.{◌≡◌, ℕ, ◌+◌, ◌-◌, ◌^◌, ◌<◌, ◌≤◌, min, List, [], ◌∷◌, ◌++◌, length, drop, get_or, refl}
use Rattle.std.proofs.Common.{sym, ap, ◌∙◌, arith, length-append}
use Rattle.std.proofs.lemmas.List.{drop_more, drop_all}
use Rattle.dbe_values.specs.Val as v
use Rattle.dbe_values.specs.Val.{Val, Vals, Entries}
use Rattle.dbe_canon.specs.Canon.{count_bytes, long_string, type_id, canon_of}
use Rattle.dbe_canon.proofs.Appending.{count_bytes_length, typed, named}

pub length_more : {X : Type 0} (f : List X → List ℕ) (g : X → List ℕ) (cons : (x : X) (xs : List X) →
    f (x ∷ xs) ≡ g x ++ f xs) (old new : ℕ) (xs : List X) (i : ℕ) (x : X) (all : ℕ) → i < length xs →
    x ≡ get_or xs i x → new ≡ min (old + length (g x)) (2 ^ 64 - 1) →
    min (old + length (f (drop i xs))) (2 ^ 64 - 1) ≡ all → min (new + length (f (drop (i + 1) xs))) (2 ^ 64 - 1) ≡ all
length_more {X} f g cons old new xs i x all lt is added so_far =
    let next : drop i xs ≡ x ∷ drop (i + 1) xs = drop_more xs i x lt ∙ ap (λ (y : X). y ∷ drop (i + 1) xs) (sym is) in
    let parts : length (f (drop i xs)) ≡ length (g x) + length (f (drop (i + 1) xs)) =
    ap (λ (y : List X). length (f y)) next ∙ ap length (cons x (drop (i + 1) xs)) ∙
    length-append (g x) (f (drop (i + 1) xs)) in
    omega arith

pub length_all : {X : Type 0} (f : List X → List ℕ) (none : f [] ≡ []) (total : ℕ) (xs : List X) (i : ℕ) (all : ℕ) →
    length xs ≤ i → total < 2 ^ 64 → min (total + length (f (drop i xs))) (2 ^ 64 - 1) ≡ all → total ≡ all
length_all {X} f none total xs i all le low so_far =
    let nothing : length (f (drop i xs)) ≡ 0 = ap (λ (y : List X). length (f y)) (drop_all i xs le) ∙ ap length none in
    omega arith

pub string_length : (x : List ℕ) → length (long_string x) ≡ 8 + length x
string_length x = length-append (count_bytes (length x)) x ∙ ap (λ n. n + length x) (count_bytes_length (length x))

pub id_length : (x : Val) → length (type_id x) ≡ 2
id_length v.nothing = refl
id_length (v.text a) = refl
id_length (v.number a) = refl
id_length (v.boolean a) = refl
id_length (v.binary a) = refl
id_length (v.texts a) = refl
id_length (v.numbers a) = refl
id_length (v.binaries a) = refl
id_length (v.map a) = refl
id_length (v.list a) = refl

pub typed_length : (x : Val) → length (typed x) ≡ 10 + length (canon_of x)
typed_length x = omega (
  arith,
  length-append (type_id x) (long_string (canon_of x)),
  id_length x,
  string_length (canon_of x),
)

pub named_length : (name : List ℕ) (x : Val) → length (named name x) ≡ 18 + length name + length (canon_of x)
named_length name x = omega (arith, length-append (long_string name) (typed x), string_length name, typed_length x)

-- a count in front
pub counted_length : (n total : ℕ) (bytes : List ℕ) → total ≡ min (length bytes) (2 ^ 64 - 1) →
    min (total + 8) (2 ^ 64 - 1) ≡ min (length (count_bytes n ++ bytes)) (2 ^ 64 - 1)
counted_length n total bytes e = omega (arith, length-append (count_bytes n) bytes, count_bytes_length n)
