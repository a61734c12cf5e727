-- The names that a legend marks, and the attributes of names.
use Rattle.std.proofs.Common.{◌≡◌, ℕ, suc, ◌+◌, ◌≤◌, Bool, true, false, ◌&&◌, ◌||◌, cond, eqb, List, [], ◌∷◌}
use Rattle.std.proofs.Common.{length}
use Rattle.std.proofs.Common.{get_or, bytes_eq, not, Some, refl, sym, ap, ◌∙◌, subst, arith}
use Rattle.std.specs.List.{AllByRecursion, list_any}
use Rattle.std.specs.List.Sorted.{IsStrictlySortedBy}
use Rattle.std.specs.declared.cmp.Ordering.TheVariants.{Less}
use Rattle.std.proofs.lemmas.Slice.Eq.{bytes_eq-Decides}
use Rattle.std.proofs.lemmas.List.{get_or_past}
use Rattle.std.proofs.lemmas.List.Folds.{list_any_none}
use Rattle.std.proofs.lemmas.List.Sorted.{list_any-IsPermutation}
use Rattle.std.proofs.lemmas.Map.Keys.{sorted_tail}
use Rattle.std.proofs.lemmas.Map.Views.{All-after_first, any-filter_same}
use Rattle.dbe_values.specs.Attributes.{value_at}
use Rattle.dbe_values.specs.Lawful.{names_of}
use Rattle.dbe_values.specs.declared.value.AttrValue.{AttrValue}
use Rattle.dbe_canon.specs.Path.{name_cmp}
use Rattle.dbe_canon.proofs.ReadLeaves.{same_bytes}
use Rattle.dbe_config.specs.Actions.{is_reserved, is_unsigned, is_do_nothing, action_for}
use Rattle.dbe_config.specs.Setting.{Setting}
use Rattle.dbe_frame.specs.Signed.{signed_among, signed_names}
use Rattle.dbe_frame.specs.Sizes.{encrypted}
use Rattle.dbe_frame.proofs.Names.{names_permuted}
use Rattle.dbe_item.specs.Names.{marked, number_of, strip}
use Rattle.dbe_item.proofs.Searched.{differs}

abbrev Attribute : Type 0
Attribute = List ℕ × AttrValue

-- ---- what a legend marks

module _ (P : List ℕ → Type 0) where
  marked_first : (b : Bool) (name : List ℕ) (xs : List (List ℕ)) → P name → AllByRecursion P xs →
      AllByRecursion P (cond b (name ∷ xs) xs)
  marked_first true name xs p all = (p, all)
  marked_first false name xs p all = all

  marked_all : (names : List (List ℕ)) (legend : List ℕ) → AllByRecursion P names →
      AllByRecursion P (marked names legend)
  marked_all [] legend all = tt
  marked_all (n ∷ names) [] all = tt
  marked_all (n ∷ names) (b ∷ legend) all =
      marked_first (eqb b encrypted) n (marked names legend) all.0 (marked_all names legend all.1)

sorted_first : (b : Bool) (name : List ℕ) (xs : List (List ℕ)) → AllByRecursion (λ y. name_cmp name y ≡ Less) xs →
    IsStrictlySortedBy name_cmp xs → IsStrictlySortedBy name_cmp (cond b (name ∷ xs) xs)
unfolding IsStrictlySortedBy
sorted_first true name xs above s = (above, s)
sorted_first false name xs above s = s

pub marked_sorted : (names : List (List ℕ)) (legend : List ℕ) → IsStrictlySortedBy name_cmp names →
    IsStrictlySortedBy name_cmp (marked names legend)
unfolding IsStrictlySortedBy
marked_sorted [] legend s = tt
marked_sorted (n ∷ names) [] s = tt
marked_sorted (n ∷ names) (b ∷ legend) s =
    sorted_first (eqb b encrypted) n (marked names legend)
    (marked_all (λ y. name_cmp n y ≡ Less) names legend s.0) (marked_sorted names legend s.1)

either_way : (b : Bool) (p : List ℕ → Bool) (name : List ℕ) (xs : List (List ℕ)) →
    list_any p (cond b (name ∷ xs) xs) ≡ true → (p name || list_any p xs) ≡ true
either_way true p name xs e = e
either_way false p name xs e = after (p name) (list_any p xs) e
  where
    after : (a b : Bool) → b ≡ true → (a || b) ≡ true
    after true b e = refl
    after false b e = e

or_more : (a b c : Bool) → (a || b) ≡ true → (b ≡ true → c ≡ true) → (a || c) ≡ true
or_more true b c e h = refl
or_more false b c e h = h e

-- a marked name is a name
pub marked_any : (p : List ℕ → Bool) (names : List (List ℕ)) (legend : List ℕ) →
    list_any p (marked names legend) ≡ true → list_any p names ≡ true
marked_any p [] legend e = e
marked_any p (n ∷ names) [] e = let never : false ≡ true = e in absurd cc
marked_any p (n ∷ names) (b ∷ legend) e =
    or_more (p n) (list_any p (marked names legend)) (list_any p names)
    (either_way (eqb b encrypted) p n (marked names legend) e) (marked_any p names legend)

false_unless : (b : Bool) → (b ≡ true → ⊥) → b ≡ false
false_unless true h = absurd (h refl)
false_unless false h = refl

never : (b : Bool) → b ≡ true → b ≡ false → ⊥
never b e g = cc

-- names after the first of names in order are others
others_differ : (x : List ℕ) (names : List (List ℕ)) → IsStrictlySortedBy name_cmp (x ∷ names) →
    list_any (bytes_eq x) names ≡ false
others_differ x names s = list_any_none (bytes_eq x) names (λ i d lt.
    false_unless (bytes_eq x (get_or names i d)) (λ e.
    let less = All-after_first name_cmp x names s i d lt in
    let same = differs (get_or names i d) x Less less refl in
    let is : get_or names i d ≡ x = sym (same_bytes x (get_or names i d) e) in
    never (bytes_eq (get_or names i d) x) ((bytes_eq-Decides (get_or names i d) x).1 is) same))

one_later : (n : ℕ) → 1 + n ≡ suc n
one_later n = omega arith

number_first : (x n : List ℕ) (names : List (List ℕ)) → bytes_eq x n ≡ true → number_of x (n ∷ names) ≡ 0
number_first x n names t = ap (λ r. cond (not r) (1 + number_of x names) 0) t

number_later : (x n : List ℕ) (names : List (List ℕ)) → bytes_eq x n ≡ false →
    number_of x (n ∷ names) ≡ suc (number_of x names)
number_later x n names t = ap (λ r. cond (not r) (1 + number_of x names) 0) t ∙ one_later (number_of x names)

-- a name that is signed only is not marked
module _ (x : List ℕ) where
  marked_none : (names : List (List ℕ)) (legend : List ℕ) → list_any (bytes_eq x) names ≡ false →
      list_any (bytes_eq x) (marked names legend) ≡ false
  marked_none names legend e = false_unless (list_any (bytes_eq x) (marked names legend)) (λ h.
      never (list_any (bytes_eq x) names) (marked_any (bytes_eq x) names legend h) e)

  skips : (b : Bool) (name : List ℕ) (xs : List (List ℕ)) → bytes_eq x name ≡ false →
      list_any (bytes_eq x) (cond b (name ∷ xs) xs) ≡ list_any (bytes_eq x) xs
  skips true name xs e = ap (λ t. t || list_any (bytes_eq x) xs) e
  skips false name xs e = refl

  pub unmarked : (names : List (List ℕ)) (legend : List ℕ) → IsStrictlySortedBy name_cmp names →
      get_or legend (number_of x names) 0 ≡ 115 → list_any (bytes_eq x) (marked names legend) ≡ false
  unmarked [] legend s e = refl
  unmarked (n ∷ names) [] s e = refl
  unmarked (n ∷ names) (b ∷ legend) s e =
      by_test (unmarked names legend (sorted_tail name_cmp n names s)) (bytes_eq x n) refl
    where
      by_test : (get_or legend (number_of x names) 0 ≡ 115 → list_any (bytes_eq x) (marked names legend) ≡ false) →
          (t : Bool) → bytes_eq x n ≡ t → list_any (bytes_eq x) (marked (n ∷ names) (b ∷ legend)) ≡ false
      by_test h true t =
          let first : number_of x (n ∷ names) ≡ 0 = number_first x n names t in
          let byte : b ≡ 115 = sym (ap (λ i. get_or (b ∷ legend) i 0) first) ∙ e in
          let is : x ≡ n = same_bytes x n t in
          let rest : list_any (bytes_eq x) names ≡ false =
          others_differ x names (subst (λ y. IsStrictlySortedBy name_cmp (y ∷ names)) (sym is) s) in
          ap (λ y. list_any (bytes_eq x) (cond (eqb y encrypted) (n ∷ marked names legend) (marked names legend))) byte
          ∙ marked_none names legend rest
      by_test h false t =
          let later : number_of x (n ∷ names) ≡ suc (number_of x names) = number_later x n names t in
          let byte : get_or legend (number_of x names) 0 ≡ 115 = sym (ap (λ i. get_or (b ∷ legend) i 0) later) ∙ e in
          skips (eqb b encrypted) n (marked names legend) t ∙ h byte

  -- a name that is there is numbered within the names, and another is not
  unnumbered : (names : List (List ℕ)) → list_any (bytes_eq x) names ≡ false → length names ≤ number_of x names
  unnumbered [] e = omega arith
  unnumbered (n ∷ names) e = by_test (unnumbered names) (bytes_eq x n) refl
    where
      by_test : (list_any (bytes_eq x) names ≡ false → length names ≤ number_of x names) → (t : Bool) →
          bytes_eq x n ≡ t → length (n ∷ names) ≤ number_of x (n ∷ names)
      by_test h true t =
          let wrong : true ≡ false = sym (ap (λ r. r || list_any (bytes_eq x) names) t) ∙ e in absurd cc
      by_test h false t =
          let rest : list_any (bytes_eq x) names ≡ false = sym (ap (λ r. r || list_any (bytes_eq x) names) t) ∙ e in
          let later : number_of x (n ∷ names) ≡ suc (number_of x names) = number_later x n names t in
          let past = h rest in
          omega (arith, past, later)

  pub has_byte : (names : List (List ℕ)) (legend : List ℕ) → length legend ≡ length names →
      get_or legend (number_of x names) 0 ≡ 115 → list_any (bytes_eq x) names ≡ true
  has_byte names legend same e = by_test (list_any (bytes_eq x) names) refl
    where
      by_test : (t : Bool) → list_any (bytes_eq x) names ≡ t → list_any (bytes_eq x) names ≡ true
      by_test true t = t
      by_test false t =
          let past = unnumbered names t in
          let none : get_or legend (number_of x names) 0 ≡ 0 =
          get_or_past legend (number_of x names) 0 (omega (arith, past, same)) in
          absurd (omega (arith, none, e))

-- ---- signed names of a row

both : (a b : Bool) → (a && b) ≡ true → (a ≡ true) × (b ≡ true)
both true true e = (refl, refl)
both true false e = absurd cc
both false b e = absurd cc

not_either : (a b : Bool) → not (a || b) ≡ true → b ≡ false
not_either true b e = absurd cc
not_either false true e = absurd cc
not_either false false e = refl

module _ (c : Setting) (row : List Attribute) (x : List ℕ) where
  pub record IsThere : Type 0 where
    pub unreserved : is_reserved x ≡ false
    pub named : list_any (bytes_eq x) (names_of row) ≡ true

  -- a signed name is one of the row's, and none that dbe keeps for itself
  pub signed_there : list_any (bytes_eq x) (signed_names c row) ≡ true → IsThere
  signed_there e =
      let test : List ℕ → Bool = λ name. not (is_unsigned c.schema c.actions c.unsigned_prefix name) in
      let among : list_any (bytes_eq x) (signed_among c row) ≡ true =
      list_any-IsPermutation (bytes_eq x) (signed_among c row) (signed_names c row) (names_permuted c row) ∙ e in
      let parts = both (test x) (list_any (bytes_eq x) (names_of row)) (sym (any-filter_same (bytes_eq x) test (test x)
      (λ k same. ap test (sym (same_bytes x k same))) (names_of row)) ∙ among) in
      record {
        unreserved = not_either (is_do_nothing (action_for c.schema c.actions c.unsigned_prefix x)) (is_reserved x)
            parts.0;
        named = parts.1;
      }

-- ---- values of names

flipped : (x y : List ℕ) → bytes_eq x y ≡ bytes_eq y x
flipped x y = by_test (bytes_eq x y) (bytes_eq y x) refl refl
  where
    by_test : (a b : Bool) → bytes_eq x y ≡ a → bytes_eq y x ≡ b → bytes_eq x y ≡ bytes_eq y x
    by_test true b e g = e ∙ sym ((bytes_eq-Decides y x).1 (sym (same_bytes x y e)))
    by_test false true e g = (bytes_eq-Decides x y).1 (sym (same_bytes y x g)) ∙ sym g
    by_test false false e g = e ∙ sym g

module _ (x : List ℕ) where
  -- a name of the row has a value
  pub has_value : (row : List Attribute) → list_any (bytes_eq x) (names_of row) ≡ true →
      (value : AttrValue) × (value_at x row ≡ Some value)
  has_value [] e = let wrong : false ≡ true = e in absurd cc
  has_value (a ∷ row) e = by_test (has_value row) (bytes_eq a.0 x) refl
    where
      by_test : (list_any (bytes_eq x) (names_of row) ≡ true → (value : AttrValue) × (value_at x row ≡ Some value)) →
          (t : Bool) → bytes_eq a.0 x ≡ t → (value : AttrValue) × (value_at x (a ∷ row) ≡ Some value)
      by_test h true t = (a.1, ap (λ r. cond r (Some a.1) (value_at x row)) t)
      by_test h false t =
          let rest = h (sym (ap (λ r. r || list_any (bytes_eq x) (names_of row)) (flipped x a.0 ∙ t)) ∙ e) in
          (rest.0, ap (λ r. cond r (Some a.1) (value_at x row)) t ∙ rest.1)

  kept : (b : Bool) (a : Attribute) (row : List Attribute) → not (is_reserved a.0) ≡ b → is_reserved x ≡ false →
      value_at x (cond b (a ∷ row) row) ≡ cond (bytes_eq a.0 x) (Some a.1) (value_at x row)
  kept true a row e unreserved = refl
  kept false a row e unreserved = by_test (bytes_eq a.0 x) refl
    where
      by_test : (t : Bool) → bytes_eq a.0 x ≡ t → value_at x row ≡ cond (bytes_eq a.0 x) (Some a.1) (value_at x row)
      by_test true t =
          let wrong : false ≡ true = sym e ∙ ap (λ n. not (is_reserved n)) (same_bytes a.0 x t) ∙ ap not unreserved in
          absurd cc
      by_test false t = sym (ap (λ r. cond r (Some a.1) (value_at x row)) t)

  -- stripping keeps it
  pub value_stripped : (row : List Attribute) → is_reserved x ≡ false → value_at x (strip row) ≡ value_at x row
  value_stripped [] unreserved = refl
  value_stripped (a ∷ row) unreserved =
      kept (not (is_reserved a.0)) a (strip row) refl unreserved
      ∙ ap (λ v. cond (bytes_eq a.0 x) (Some a.1) v) (value_stripped row unreserved)
