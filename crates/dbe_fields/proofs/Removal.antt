-- Names taken out of an item, and computed names.
use Rattle.std.proofs.Common.{◌≡◌, ℕ, zero, suc, ◌+◌, ◌<◌, ◌≤◌, Bool, true, false, not, ◌||◌, cond, if◌then◌else◌}
use Rattle.std.proofs.Common.{List, [], ◌∷◌, ◌++◌, length, get_or, drop, map, filter, fold, bytes_eq, nat_cmp, Less}
use Rattle.std.proofs.Common.{refl, sym, ap, ◌∙◌, arith}
use Rattle.std.specs.Ordering.{is_eq}
use Rattle.std.specs.Cmp.Lexicographic.{slice_cmp}
use Rattle.std.proofs.lemmas.Map.Text.{is_eq-slice_cmp}
use Rattle.std.proofs.lemmas.Slice.Eq.{bytes_eq-Decides}
use Rattle.std.proofs.lemmas.List.{drop_more, drop_all}
use Rattle.dbe_values.specs.Attributes.{without}
use Rattle.dbe_values.specs.Lawful.{names_of}
use Rattle.dbe_values.specs.Sets.{IsIncreasing}
use Rattle.dbe_values.specs.declared.value.AttrValue.{AttrValue}
use Rattle.dbe_config.specs.Setting.{Setting}
use Rattle.dbe_config.specs.declared.compound.Compound.{Compound}
use Rattle.dbe_config.specs.declared.virtual_field.Virtual.{Virtual}
use Rattle.dbe_config.specs.Rules.{is_among, compound_names, virtual_names}
use Rattle.dbe_fields.specs.Plain.{plain}
use Rattle.dbe_fields.specs.Extended.{with_value, uncomputed, extended}

tail : (x : List ℕ) (xs : List (List ℕ)) → IsIncreasing (x ∷ xs) → IsIncreasing xs
tail x xs r i j lt h = r (suc i) (suc j) (omega arith) (omega arith)

skip : (x y : List ℕ) (ys : List (List ℕ)) → IsIncreasing (x ∷ y ∷ ys) → IsIncreasing (x ∷ ys)
skip x y ys r zero zero lt h = absurd (omega arith)
skip x y ys r zero (suc j) lt h = r zero (suc (suc j)) (omega arith) (omega arith)
skip x y ys r (suc i) zero lt h = absurd (omega arith)
skip x y ys r (suc i) (suc j) lt h = r (suc (suc i)) (suc (suc j)) (omega arith) (omega arith)

-- names behind one are others
below_apart : (x y n : List ℕ) → slice_cmp nat_cmp x y ≡ Less → x ≡ n → bytes_eq y n ≡ false
below_apart x y n less is = swapped (bytes_eq y n) refl
  where
    swapped : (b : Bool) → bytes_eq y n ≡ b → b ≡ false
    swapped false e = refl
    swapped true e =
        let same : x ≡ y = is ∙ sym ((bytes_eq-Decides y n).0 e) in
        let yes : bytes_eq x y ≡ true = (bytes_eq-Decides x y).1 same in
        let no_tie : bytes_eq x y ≡ false = sym (is_eq-slice_cmp x y) ∙ ap is_eq less in
        cc

behind_stay : (n x : List ℕ) (others : List (List ℕ × AttrValue)) → x ≡ n → IsIncreasing (x ∷ names_of others) →
    filter (λ a. not (bytes_eq a.0 n)) others ≡ others
behind_stay n x [] is r = refl
behind_stay n x (b ∷ others) is r =
    rw (below_apart x b.0 n (r 0 1 (omega arith) (omega arith)) is)
    (ap (λ bs. b ∷ bs) (behind_stay n x others is (skip x b.0 (names_of others) r)))

without_by : (n : List ℕ) (a : List ℕ × AttrValue) (others : List (List ℕ × AttrValue)) →
    IsIncreasing (a.0 ∷ names_of others) → without n others ≡ filter (λ a. not (bytes_eq a.0 n)) others → (b : Bool) →
    bytes_eq a.0 n ≡ b
    → (if b then others else a ∷ without n others) ≡ cond (not b) (a ∷ filter (λ a. not (bytes_eq a.0 n)) others)
    (filter (λ a. not (bytes_eq a.0 n)) others)
without_by n a others r more true same = sym (behind_stay n a.0 others ((bytes_eq-Decides a.0 n).0 same) r)
without_by n a others r more false same = ap (λ bs. a ∷ bs) more

without_is : (n : List ℕ) (row : List (List ℕ × AttrValue)) → IsIncreasing (names_of row) →
    without n row ≡ filter (λ a. not (bytes_eq a.0 n)) row
without_is n [] r = refl
without_is n (a ∷ others) r = without_by n a others r (without_is n others (tail a.0 (names_of others) r))
    (bytes_eq a.0 n) refl

filter_by : {A : Type 0} → (p q : A → Bool) (x : A) (xs : List A) →
    filter (λ x. not (p x || q x)) xs ≡ filter (λ x. not (q x)) (filter (λ x. not (p x)) xs) → (b : Bool)
    → cond (not (b || q x)) (x ∷ filter (λ x. not (p x || q x)) xs) (filter (λ x. not (p x || q x)) xs) ≡ filter
    (λ x. not (q x)) (cond (not b) (x ∷ filter (λ x. not (p x)) xs) (filter (λ x. not (p x)) xs))
filter_by p q x xs more true = more
filter_by p q x xs more false = rw more refl

pub filter_two : {A : Type 0} → (p q : A → Bool) (xs : List A) →
    filter (λ x. not (p x || q x)) xs ≡ filter (λ x. not (q x)) (filter (λ x. not (p x)) xs)
filter_two p q [] = refl
filter_two p q (x ∷ xs) = filter_by p q x xs (filter_two p q xs) (p x)

abbrev pub unnamed : List (List ℕ) → List (List ℕ × AttrValue) → List (List ℕ × AttrValue)
unnamed names row = filter (λ a. not (is_among a.0 names)) row

front : {X : Type 0} → (xs : List X) (i : ℕ) (x : X) → i < length xs → x ≡ get_or xs i x →
    drop i xs ≡ x ∷ drop (i + 1) xs
front xs i x lt is = drop_more xs i x lt ∙ ap (λ y. y ∷ drop (i + 1) xs) (sym is)

-- one name less to be taken out
pub name_out : {X : Type 0} → (f : X → List ℕ) (xs : List X) (i : ℕ) (x : X) (n : List ℕ) (row all : List (List ℕ ×
    AttrValue)) → i < length xs → x ≡ get_or xs i x → n ≡ f x → IsIncreasing (names_of row)
    → unnamed (map f (drop i xs)) row ≡ all → unnamed (map f (drop (i + 1) xs)) (without n row) ≡ all
name_out f xs i x n row all lt is named rising done =
    ap (unnamed (map f (drop (i + 1) xs))) (without_is n row rising)
    ∙ sym (filter_two (λ (a : List ℕ × AttrValue). bytes_eq a.0 n) (λ a. is_among a.0 (map f (drop (i + 1) xs))) row)
    ∙ ap (λ m. unnamed (m ∷ map f (drop (i + 1) xs)) row) named
    ∙ ap (λ ys. unnamed (map f ys) row) (sym (front xs i x lt is)) ∙ done

filter_all : (row : List (List ℕ × AttrValue)) → unnamed [] row ≡ row
filter_all [] = refl
filter_all (a ∷ others) = ap (λ bs. a ∷ bs) (filter_all others)

pub names_out : {X : Type 0} → (f : X → List ℕ) (xs : List X) (i : ℕ) (row all : List (List ℕ × AttrValue)) →
    length xs ≤ i → unnamed (map f (drop i xs)) row ≡ all → row ≡ all
names_out f xs i row all past done = sym (filter_all row) ∙
    sym (ap (λ ys. unnamed (map f ys) row) (drop_all i xs past)) ∙ done

-- ---- computed names

pub among_at : {X : Type 0} → (f : X → List ℕ) (xs : List X) (i : ℕ) (x : X) → i < length xs → x ≡ get_or xs i x →
    is_among (f x) (map f xs) ≡ true
among_at f [] i x lt is = absurd (omega arith)
among_at f (y ∷ ys) zero x lt is = let same : bytes_eq (f x) (f y) ≡ true =
    (bytes_eq-Decides (f x) (f y)).1 (ap f is) in rw same refl
among_at f (y ∷ ys) (suc i) x lt is = ap (λ b. bytes_eq (f x) (f y) || b) (among_at f ys i x (omega arith) is) ∙
    or_true (bytes_eq (f x) (f y))
  where
    or_true : (b : Bool) → (b || true) ≡ true
    or_true true = refl
    or_true false = refl

pub or_right : (a b : Bool) → b ≡ true → (a || b) ≡ true
or_right true b e = refl
or_right false b e = e

pub or_left : (a b : Bool) → a ≡ true → (a || b) ≡ true
or_left a b e = rw e refl

-- ---- puts

-- one put less to be made
pub put_more : {R X : Type 0} → (f : X → List ℕ) (step : R → List ℕ → R) (xs : List X) (i : ℕ) (x : X)
    (row next all : R) → i < length xs → x ≡ get_or xs i x → next ≡ step row (f x)
    → fold step row (map f (drop i xs)) ≡ all → fold step next (map f (drop (i + 1) xs)) ≡ all
put_more f step xs i x row next all lt is more done =
    ap (λ r. fold step r (map f (drop (i + 1) xs))) more ∙
    sym (ap (λ ys. fold step row (map f ys)) (front xs i x lt is)) ∙ done

pub fold_two : {R : Type 0} → (step : R → List ℕ → R) (row : R) (xs ys : List (List ℕ)) →
    fold step row (xs ++ ys) ≡ fold step (fold step row xs) ys
fold_two step row [] ys = refl
fold_two step row (x ∷ xs) ys = fold_two step (step row x) xs ys

-- ---- an extended item

pub extended_is : (s : Setting) (row copy less least more most : List (List ℕ × AttrValue))
    (compounds : List Compound) (virtuals : List Virtual) → compounds ≡ s.compounds → virtuals ≡ s.virtuals → copy ≡ row
    → less ≡ unnamed (compound_names compounds) copy → least ≡ unnamed (virtual_names virtuals) less
    → more ≡ fold (λ r name. with_value name (plain s name row) r) least (compound_names s.compounds) →
    most ≡ fold (λ r name. with_value name (plain s name row) r) more (virtual_names s.virtuals)
    → most ≡ extended s row
unfolding extended
extended_is s row copy less least more most compounds virtuals cs vs same removed removed_too put put_too =
    let step = λ (r : List (List ℕ × AttrValue)) (name : List ℕ). with_value name (plain s name row) r in
    let taken : less ≡ unnamed (compound_names s.compounds) row = removed ∙
    ap (λ xs. unnamed (compound_names xs) copy) cs ∙ ap (unnamed (compound_names s.compounds)) same in
    let base : least ≡ uncomputed s row =
    removed_too ∙ ap (λ xs. unnamed (virtual_names xs) less) vs ∙ ap (unnamed (virtual_names s.virtuals)) taken
    ∙ sym (filter_two (λ (a : List ℕ × AttrValue). is_among a.0 (compound_names s.compounds))
    (λ a. is_among a.0 (virtual_names s.virtuals)) row) in
    put_too ∙ ap (λ r. fold step r (virtual_names s.virtuals)) (put ∙
    ap (λ r. fold step r (compound_names s.compounds)) base)
    ∙ sym (fold_two step (uncomputed s row) (compound_names s.compounds) (virtual_names s.virtuals))
