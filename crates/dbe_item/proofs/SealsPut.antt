-- Attributes put under names that dbe keeps for itself leave the others as they are.
use Rattle.std.proofs.Common.{◌≡◌, ℕ, Bool, true, false, cond, List, [], ◌∷◌, filter, Some, bytes_eq, refl}
use Rattle.std.proofs.Common.{sym, ap, ◌∙◌, subst, Ordering, Less, Equal, Greater}
use Rattle.std.specs.List.{AllByRecursion}
use Rattle.std.specs.Ordering.{match_ordering}
use Rattle.std.proofs.lemmas.Slice.Eq.{bytes_eq-Decides}
use Rattle.std.proofs.lemmas.Cmp.{nat_list_cmp_total, tied_itself}
use Rattle.dbe_values.specs.Attributes.{value_at, put_at}
use Rattle.dbe_values.specs.Lawful.{names_of}
use Rattle.dbe_values.specs.declared.value.AttrValue.{AttrValue}
use Rattle.dbe_values.proofs.Placing.{order}
use Rattle.dbe_values.proofs.Lookups.{same_name}
use Rattle.dbe_item.specs.Sealed.{put_all}

abbrev pub Attribute : Type 0
Attribute = List ℕ × AttrValue

pub same_bytes : (x : List ℕ) → bytes_eq x x ≡ true
same_bytes x = (bytes_eq-Decides x x).1 refl

true_not : (b : Bool) → b ≡ true → b ≡ false → ⊥
true_not b e f = cc

-- ---- one attribute

module _ (n : List ℕ) (v : AttrValue) where
  found_step : (a : Attribute) (others put : List Attribute) (o : Ordering) → order n a.0 ≡ o →
      value_at n put ≡ Some v → value_at n (match_ordering o ((n, v) ∷ a ∷ others) ((n, v) ∷ others) (a ∷ put))
      ≡ Some v
  found_step a others put Less e h = rw (same_bytes n)
  found_step a others put Equal e h = rw (same_bytes n)
  found_step a others put Greater e h = behind (bytes_eq a.0 n) refl
    where
      behind : (b : Bool) → bytes_eq a.0 n ≡ b → cond b (Some a.1) (value_at n put) ≡ Some v
      behind false same = h
      behind true same =
          let is : a.0 ≡ n = (bytes_eq-Decides a.0 n).0 same in
          let equal : order n a.0 ≡ Equal = subst (λ y. order n y ≡ Equal) (sym is) (tied n) in
          absurd (apart (sym equal ∙ e))
        where
          tied : (x : List ℕ) → order x x ≡ Equal
          tied x = tied_itself nat_list_cmp_total x

          apart : Equal ≡ Greater → ⊥
          apart e = absurd cc

  -- what is put is found
  pub found_put : (row : List Attribute) → value_at n (put_at n v row) ≡ Some v
  found_put [] = rw (same_bytes n)
  found_put (a ∷ others) = found_step a others (put_at n v others) (order n a.0) refl (found_put others)

  module _ (name : List ℕ) (apart : bytes_eq n name ≡ false) where
    value_step : (a : Attribute) (others put : List Attribute) (o : Ordering) → order n a.0 ≡ o →
        value_at name put ≡ value_at name others →
        value_at name (match_ordering o ((n, v) ∷ a ∷ others) ((n, v) ∷ others) (a ∷ put)) ≡ value_at name (a ∷ others)
    value_step a others put Less e h = rw apart
    value_step a others put Equal e h =
        let other : bytes_eq a.0 name ≡ false = ap (λ y. bytes_eq y name) (same_name n a.0 e) ∙ apart in
        rw (apart, other)
    value_step a others put Greater e h = ap (λ r. cond (bytes_eq a.0 name) (Some a.1) r) h

    -- another name keeps its value
    pub value_kept : (row : List Attribute) → value_at name (put_at n v row) ≡ value_at name row
    value_kept [] = rw apart
    value_kept (a ∷ others) = value_step a others (put_at n v others) (order n a.0) refl (value_kept others)

  module _ (keep : List ℕ → Bool) (apart : keep n ≡ false) where
    kept_step : (a : Attribute) (others put : List Attribute) (o : Ordering) → order n a.0 ≡ o →
        filter (λ (x : Attribute). keep x.0) put ≡ filter (λ (x : Attribute). keep x.0) others →
        filter (λ (x : Attribute). keep x.0) (match_ordering o ((n, v) ∷ a ∷ others) ((n, v) ∷ others) (a ∷ put))
        ≡ filter (λ (x : Attribute). keep x.0) (a ∷ others)
    kept_step a others put Less e h = rw apart
    kept_step a others put Equal e h =
        let other : keep a.0 ≡ false = ap keep (same_name n a.0 e) ∙ apart in
        rw (apart, other)
    kept_step a others put Greater e h = ap (λ (r : List Attribute). cond (keep a.0) (a ∷ r) r) h

    -- the attributes that are kept are the same
    pub kept_put : (row : List Attribute) →
        filter (λ (x : Attribute). keep x.0) (put_at n v row) ≡ filter (λ (x : Attribute). keep x.0) row
    kept_put [] = rw apart
    kept_put (a ∷ others) = kept_step a others (put_at n v others) (order n a.0) refl (kept_put others)

    names_step : (a : Attribute) (others put : List Attribute) (o : Ordering) → order n a.0 ≡ o →
        filter keep (names_of put) ≡ filter keep (names_of others) →
        filter keep (names_of (match_ordering o ((n, v) ∷ a ∷ others) ((n, v) ∷ others) (a ∷ put)))
        ≡ filter keep (names_of (a ∷ others))
    names_step a others put Less e h = rw apart
    names_step a others put Equal e h =
        let other : keep a.0 ≡ false = ap keep (same_name n a.0 e) ∙ apart in
        rw (apart, other)
    names_step a others put Greater e h = ap (λ (r : List (List ℕ)). cond (keep a.0) (a.0 ∷ r) r) h

    pub names_put : (row : List Attribute) → filter keep (names_of (put_at n v row)) ≡ filter keep (names_of row)
    names_put [] = rw apart
    names_put (a ∷ others) = names_step a others (put_at n v others) (order n a.0) refl (names_put others)

-- ---- many attributes

pub value_kept_by_all : (name : List ℕ) (beacons row : List Attribute) →
    AllByRecursion (λ (a : Attribute). bytes_eq a.0 name ≡ false) beacons →
    value_at name (put_all beacons row) ≡ value_at name row
value_kept_by_all name [] row h = refl
value_kept_by_all name (a ∷ others) row h =
    value_kept_by_all name others (put_at a.0 a.1 row) h.1 ∙ value_kept a.0 a.1 name h.0 row

module _ (keep : List ℕ → Bool) where
  pub kept_by_all : (beacons row : List Attribute) → AllByRecursion (λ (a : Attribute). keep a.0 ≡ false) beacons →
      filter (λ (x : Attribute). keep x.0) (put_all beacons row) ≡ filter (λ (x : Attribute). keep x.0) row
  kept_by_all [] row h = refl
  kept_by_all (a ∷ others) row h =
      kept_by_all others (put_at a.0 a.1 row) h.1 ∙ kept_put a.0 a.1 keep h.0 row

  pub names_by_all : (beacons row : List Attribute) → AllByRecursion (λ (a : Attribute). keep a.0 ≡ false) beacons →
      filter keep (names_of (put_all beacons row)) ≡ filter keep (names_of row)
  names_by_all [] row h = refl
  names_by_all (a ∷ others) row h =
      names_by_all others (put_at a.0 a.1 row) h.1 ∙ names_put a.0 a.1 keep h.0 row
