-- The names that a walk has seen.
use Rattle.std.proofs.Common.{◌≡◌, ◌<◌, ◌+◌, ℕ, Bool, true, false, List, [], ◌∷◌, ◌||◌, refl, ap, sym, ◌∙◌, is_some}
use Rattle.std.proofs.Common.{Some, String, string_bytes, string_cmp, Global, BTreeMap, bytes_eq, map, length, drop}
use Rattle.std.proofs.Common.{get_or, cond}
use Rattle.std.specs.List.{list_any}
use Rattle.std.specs.BTreeMap.{get_by_text, Updates}
use Rattle.std.specs.declared.option.Option.{Option}
use Rattle.std.proofs.lemmas.Map.Text.{btree_map_updates_text}
use Rattle.std.proofs.lemmas.List.{drop_more}
use Rattle.dbe_config.specs.Rules.{is_among, is_twice}

-- whether a walk has seen a name
abbrev pub is_seen : BTreeMap (String Global) (Unit {0}) → List ℕ → Bool
is_seen seen name = is_some (get_by_text seen name)

or_swap : (a b c d : Bool) → ((a || b) || (c || d)) ≡ ((a || c) || (b || d))
or_swap true b c d = refl
or_swap false true true d = refl
or_swap false true false d = refl
or_swap false false true d = refl
or_swap false false false d = refl

-- a test that holds of one name more
any_more : (p q : List ℕ → Bool) (name : List ℕ) → ((n : List ℕ) → q n ≡ (bytes_eq name n || p n)) →
    (names : List (List ℕ)) → list_any q names ≡ (is_among name names || list_any p names)
any_more p q name more [] = refl
any_more p q name more (n ∷ names) = rw (more n, any_more p q name more names) (or_swap (bytes_eq name n) (p n)
    (is_among name names) (list_any p names))

or_turn : (a b t : Bool) → ((a || b) || t) ≡ (b || (a || t))
or_turn true true t = refl
or_turn true false t = refl
or_turn false true t = refl
or_turn false false t = refl

front : {X : Type 0} → (xs : List X) (i : ℕ) (x : X) → i < length xs → x ≡ get_or xs i x →
    drop i xs ≡ x ∷ drop (i + 1) xs
front xs i x lt is = drop_more xs i x lt ∙ ap (λ y. y ∷ drop (i + 1) xs) (sym is)

-- one name more that is new
pub twice_step : {X : Type 0} → (f : X → List ℕ) (xs : List X) (i : ℕ) (x : X) (p q : List ℕ → Bool) (all : Bool)
    → i < length xs → x ≡ get_or xs i x → p (f x) ≡ false → ((n : List ℕ) → q n ≡ (bytes_eq (f x) n || p n))
    → (list_any p (map f (drop i xs)) || is_twice (map f (drop i xs))) ≡ all
    → (list_any q (map f (drop (i + 1) xs)) || is_twice (map f (drop (i + 1) xs))) ≡ all
twice_step {X = X} f xs i x p q all lt is fresh more done =
    let names = map f (drop (i + 1) xs) in
    let known : (list_any p (map f (drop i xs)) || is_twice (map f (drop i xs))) ≡
    (list_any p (map f (x ∷ drop (i + 1) xs)) || is_twice (map f (x ∷ drop (i + 1) xs))) =
    ap (λ (ys : List X). list_any p (map f ys) || is_twice (map f ys)) (front xs i x lt is) in
    let opened : (list_any p (map f (x ∷ drop (i + 1) xs)) || is_twice (map f (x ∷ drop (i + 1) xs))) ≡
    (list_any p names || (is_among (f x) names || is_twice names)) = rw fresh refl in
    ap (λ b. b || is_twice names) (any_more p q (f x) more names) ∙ or_turn (is_among (f x) names) (list_any p names)
    (is_twice names)
    ∙ sym opened ∙ sym known ∙ done

-- a name that was seen before
pub twice_found : {X : Type 0} → (f : X → List ℕ) (xs : List X) (i : ℕ) (x : X) (p : List ℕ → Bool) (all : Bool)
    → i < length xs → x ≡ get_or xs i x → p (f x) ≡ true
    → (list_any p (map f (drop i xs)) || is_twice (map f (drop i xs))) ≡ all → true ≡ all
twice_found {X = X} f xs i x p all lt is seen done =
    let known : (list_any p (map f (drop i xs)) || is_twice (map f (drop i xs))) ≡
    (list_any p (map f (x ∷ drop (i + 1) xs)) || is_twice (map f (x ∷ drop (i + 1) xs))) =
    ap (λ (ys : List X). list_any p (map f ys) || is_twice (map f ys)) (front xs i x lt is) in
    let opened : (list_any p (map f (x ∷ drop (i + 1) xs)) || is_twice (map f (x ∷ drop (i + 1) xs))) ≡ true =
    rw seen refl in
    sym opened ∙ sym known ∙ done

-- nothing is seen at the start
pub any_none : (p : List ℕ → Bool) → ((n : List ℕ) → p n ≡ false) → (names : List (List ℕ)) → list_any p names ≡ false
any_none p none [] = refl
any_none p none (n ∷ names) = rw (none n, any_none p none names) refl

is_some_choice : (t : Bool) (x : Option (Unit {0})) → is_some (cond t (Some tt) x) ≡ (t || is_some x)
is_some_choice true x = refl
is_some_choice false x = refl

-- what a map that got one name more has seen
pub seen_more : (key : String Global) (name : List ℕ) (seen seen' : BTreeMap (String Global) (Unit {0})) →
    Updates string_cmp seen seen' key (Some tt) → string_bytes key ≡ name
    → (n : List ℕ) → is_seen seen' n ≡ (bytes_eq name n || is_seen seen n)
seen_more key name seen seen' updates same n =
    ap is_some (btree_map_updates_text (string_bytes key) seen seen' (Some tt) updates n) ∙
    is_some_choice (bytes_eq (string_bytes key) n) (get_by_text seen n)
    ∙ ap (λ k. bytes_eq k n || is_seen seen n) same
