-- What is written element by element.
use Rattle.std.proofs.Common.{◌≡◌, ℕ, ◌+◌, ◌<◌, ◌≤◌, List, [], ◌∷◌, ◌++◌, length, take, drop, get_or, refl, sym, ap}
use Rattle.std.proofs.Common.{◌∙◌, append_assoc, append-nil, arith, length-append, map}
use Rattle.std.proofs.lemmas.List.{drop_more, drop_all, take_at, drop_at}
use Rattle.dbe_values.specs.Val.{Val}
use Rattle.dbe_values.specs.View.{view, vals_of, entries_of, entry_view}
use Rattle.dbe_values.specs.declared.value.AttrValue.{AttrValue}
use Rattle.dbe_canon.specs.Canon.{count_bytes, long_string, type_id, canon_of, vals_bytes, entries_bytes, vals_count}
use Rattle.dbe_canon.specs.Canon.{entries_count}

-- an element's bytes behind those before it
pub appended_more : {X : Type 0} (f : List X → List ℕ) (g : X → List ℕ) (cons : (x : X) (xs : List X) →
    f (x ∷ xs) ≡ g x ++ f xs) (old new : List ℕ) (xs : List X) (i : ℕ) (x : X) (all : List ℕ) → i < length xs →
    x ≡ get_or xs i x → new ≡ old ++ g x → old ++ f (drop i xs) ≡ all → new ++ f (drop (i + 1) xs) ≡ all
appended_more {X} f g cons old new xs i x all lt is written so_far =
    let next : drop i xs ≡ x ∷ drop (i + 1) xs = drop_more xs i x lt ∙ ap (λ (y : X). y ∷ drop (i + 1) xs) (sym is) in
    ap (λ (y : List ℕ). y ++ f (drop (i + 1) xs)) written
    ∙ append_assoc old (g x) (f (drop (i + 1) xs))
    ∙ ap (λ (y : List ℕ). old ++ y) (sym (cons x (drop (i + 1) xs)))
    ∙ ap (λ (y : List X). old ++ f y) (sym next)
    ∙ so_far

pub appended_all : {X : Type 0} (f : List X → List ℕ) (none : f [] ≡ []) (out : List ℕ) (xs : List X) (i : ℕ)
    (all : List ℕ) → length xs ≤ i → out ++ f (drop i xs) ≡ all → out ≡ all
appended_all {X} f none out xs i all le so_far =
    sym (append-nil out) ∙ ap (λ (y : List ℕ). out ++ y) (sym none) ∙
    ap (λ (y : List X). out ++ f y) (sym (drop_all i xs le)) ∙ so_far

-- the bytes of values, one after another
abbrev pub typed : Val → List ℕ
typed x = type_id x ++ long_string (canon_of x)

abbrev pub named : List ℕ → Val → List ℕ
named name x = long_string name ++ typed x

abbrev pub values_spelled : List AttrValue → List ℕ
values_spelled xs = vals_bytes (vals_of (map view xs))

abbrev pub entries_spelled : List (List ℕ × AttrValue) → List ℕ
entries_spelled es = entries_bytes (entries_of (map entry_view es))

pub values_cons : (x : AttrValue) (xs : List AttrValue) → values_spelled (x ∷ xs) ≡ typed (view x) ++ values_spelled xs
unfolding vals_bytes
values_cons x xs = sym (append_assoc (type_id (view x)) (long_string (canon_of (view x))) (values_spelled xs))

pub entries_cons : (e : List ℕ × AttrValue) (es : List (List ℕ × AttrValue)) →
    entries_spelled (e ∷ es) ≡ named e.0 (view e.1) ++ entries_spelled es
unfolding entries_bytes
entries_cons e es = simp append_assoc

pub values_none : values_spelled [] ≡ []
unfolding vals_bytes
values_none = refl

pub entries_none : entries_spelled [] ≡ []
unfolding entries_bytes
entries_none = refl

pub count_bytes_length : (n : ℕ) → length (count_bytes n) ≡ 8
unfolding count_bytes
count_bytes_length n = refl

pub vals_count_is : (xs : List AttrValue) → vals_count (vals_of (map view xs)) ≡ length xs
vals_count_is [] = refl
vals_count_is (x ∷ xs) = omega (arith, vals_count_is xs)

pub entries_count_is : (es : List (List ℕ × AttrValue)) → entries_count (entries_of (map entry_view es)) ≡ length es
entries_count_is [] = refl
entries_count_is (e ∷ es) = omega (arith, entries_count_is es)

-- a value behind its type and its length, which is written last
pub length_filled : (old id begun reserved spelled with final : List ℕ) (start n : ℕ) → begun ≡ old ++ id →
    start ≡ length begun → reserved ≡ begun ++ count_bytes n → with ≡ reserved ++ spelled →
    final ≡ take start with ++ long_string (drop (start + 8) with) → final ≡ old ++ (id ++ long_string spelled)
length_filled old id begun reserved spelled with final start n e f g h k =
    let whole : with ≡ begun ++ (count_bytes n ++ spelled) = h ∙ ap (λ (y : List ℕ). y ++ spelled) g ∙
    append_assoc begun (count_bytes n) spelled in
    let other : with ≡ (begun ++ count_bytes n) ++ spelled = h ∙ ap (λ (y : List ℕ). y ++ spelled) g in
    let front : take start with ≡ begun = ap (take start) whole ∙
    take_at begun (count_bytes n ++ spelled) start (sym f) in
    let back : drop (start + 8) with ≡ spelled = ap (drop (start + 8)) other ∙
    drop_at (begun ++ count_bytes n) spelled (start + 8) (omega (
      arith,
      length-append begun (count_bytes n),
      count_bytes_length n,
    )) in
    k ∙ ap (λ (y : List ℕ). y ++ long_string (drop (start + 8) with)) front ∙
    ap (λ (y : List ℕ). begun ++ long_string y) back ∙ ap (λ (y : List ℕ). y ++ long_string spelled) e ∙
    append_assoc old id (long_string spelled)

-- the same with the name in front
pub named_written : (old with final name : List ℕ) (x : Val) → with ≡ old ++ long_string name →
    final ≡ with ++ typed x → final ≡ old ++ named name x
named_written old with final name x e f = f ∙ ap (λ (y : List ℕ). y ++ typed x) e ∙
    append_assoc old (long_string name) (typed x)
