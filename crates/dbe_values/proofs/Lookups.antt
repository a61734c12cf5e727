-- Attributes found, put and taken out by their place in the order of names.
use Rattle.std.proofs.Common.{◌≡◌, ℕ, zero, suc, ◌+◌, ◌<◌, ◌≤◌, true, false, List, [], ◌∷◌, ◌++◌, length, get_or, set}
use Rattle.std.proofs.Common.{insert, remove, take, drop, Some, None, Ordering, Less, Equal, Greater, bytes_eq, refl}
use Rattle.std.proofs.Common.{sym, ap, ◌∙◌, subst, arith, ◌⊎◌, inl, inr}
use Rattle.std.specs.Str.{IsUtf8}
use Rattle.std.specs.Ordering.{is_eq}
use Rattle.std.specs.Cmp.{Equal-is}
use Rattle.std.proofs.lemmas.Map.Text.{is_eq-slice_cmp}
use Rattle.std.proofs.lemmas.Slice.Eq.{bytes_eq-Decides}
use Rattle.std.proofs.lemmas.List.{length-map, get_or-map, map-append}
use Rattle.std.proofs.Math.Seq.{map-set_same}
use Rattle.std.proofs.lemmas.List.Edits.{length-remove, get_or-remove_below, get_or-remove_above}
use Rattle.std.proofs.lemmas.List.Elements.{All-cons, All-append, All-take, All-drop, All-set, All-push}
use Rattle.dbe_values.specs.View.{view}
use Rattle.dbe_values.specs.Sets.{IsIncreasing, IsGap}
use Rattle.dbe_values.specs.Attributes.{is_name, value_at, put_at, without}
use Rattle.dbe_values.specs.Lawful.{IsLawful, IsLawfulAttribute, IsLawfulItem, names_of}
use Rattle.dbe_values.specs.declared.value.AttrValue.{AttrValue}
use Rattle.dbe_values.proofs.Placing.{order, turned, increasing_insert}

same_order : (x : List ℕ) → order x x ≡ Equal
same_order x = (Equal-is (order x x)).0 (is_eq-slice_cmp x x ∙ (bytes_eq-Decides x x).1 refl)

pub same_name : (x y : List ℕ) → order x y ≡ Equal → y ≡ x
same_name x y e = sym ((bytes_eq-Decides x y).0 (sym (is_eq-slice_cmp x y) ∙ ap is_eq e))

is_same : (x y : List ℕ) → x ≡ y → bytes_eq x y ≡ true
is_same x y e = (bytes_eq-Decides x y).1 e

differs : (x y : List ℕ) (o : Ordering) → order x y ≡ o → is_eq o ≡ false → bytes_eq x y ≡ false
differs x y o e apart = sym (is_eq-slice_cmp x y) ∙ ap is_eq e ∙ apart

tail : (x : List ℕ) (xs : List (List ℕ)) → IsIncreasing (x ∷ xs) → IsIncreasing xs
tail x xs r i j lt h = r (suc i) (suc j) (omega arith) (omega arith)

-- the first name is below a name that stands later
first_below : (x : List ℕ) (xs : List (List ℕ)) (i : ℕ) (name : List ℕ) → IsIncreasing (x ∷ xs) → i < length xs →
    get_or xs i [] ≡ name → order x name ≡ Less
first_below x xs i name r lt is = subst (λ y. order x y ≡ Less) is (r 0 (suc i) (omega arith) (omega arith))

module _ (name : List ℕ) where
  pub there_value : (attributes : List (List ℕ × AttrValue)) (i : ℕ) (d : List ℕ × AttrValue) →
      IsIncreasing (names_of attributes) → i < length (names_of attributes) → get_or (names_of attributes) i [] ≡ name
      → value_at name attributes ≡ Some (get_or attributes i d).1
  there_value [] i d r lt is = absurd (omega arith)
  there_value (a ∷ others) zero d r lt is = rw (is_same a.0 name is)
  there_value (a ∷ others) (suc i) d r lt is =
      rw (differs a.0 name Less (first_below a.0 (names_of others) i name r (omega arith) is) refl)
      (there_value others i d (tail a.0 (names_of others) r) (omega arith) is)

  pub there_without : (attributes : List (List ℕ × AttrValue)) (i : ℕ) → IsIncreasing (names_of attributes) →
      i < length (names_of attributes) → get_or (names_of attributes) i [] ≡ name
      → without name attributes ≡ remove attributes i
  there_without [] i r lt is = absurd (omega arith)
  there_without (a ∷ others) zero r lt is = rw (is_same a.0 name is)
  there_without (a ∷ others) (suc i) r lt is =
      rw (differs a.0 name Less (first_below a.0 (names_of others) i name r (omega arith) is) refl)
      (ap (λ x. a ∷ x) (there_without others i (tail a.0 (names_of others) r) (omega arith) is))

  pub there_put : (value : AttrValue) (attributes : List (List ℕ × AttrValue)) (i : ℕ) →
      IsIncreasing (names_of attributes) → i < length (names_of attributes) → get_or (names_of attributes) i [] ≡ name
      → put_at name value attributes ≡ set attributes i (name, value)
  there_put value [] i r lt is = absurd (omega arith)
  there_put value (a ∷ others) zero r lt is = rw (is, same_order name)
  there_put value (a ∷ others) (suc i) r lt is =
      rw (turned a.0 name Less (first_below a.0 (names_of others) i name r (omega arith) is))
      (ap (λ x. a ∷ x) (there_put value others i (tail a.0 (names_of others) r) (omega arith) is))

  -- no attribute has the name
  IsApart : List (List ℕ × AttrValue) → Type 0
  IsApart attributes = (k : ℕ) → k < length (names_of attributes) → bytes_eq (get_or (names_of attributes) k []) name
      ≡ false

  apart : (attributes : List (List ℕ × AttrValue)) (i : ℕ) → IsGap (names_of attributes) name i → IsApart attributes
  unfolding IsApart
  apart attributes i gap k lt = elim (side k) [
    | inl low ↦ differs (get_or (names_of attributes) k []) name Less (turned name (get_or (names_of attributes) k [])
        Greater (gap.below k low)) refl
    | inr high ↦ differs (get_or (names_of attributes) k []) name Greater
        (turned name (get_or (names_of attributes) k []) Less (gap.above k high lt)) refl
  ]
    where
      side : (k : ℕ) → (k < i) ⊎ (i ≤ k)
      side k = grind arith

  apart_tail : (a : List ℕ × AttrValue) (others : List (List ℕ × AttrValue)) → IsApart (a ∷ others) → IsApart others
  unfolding IsApart
  apart_tail a others h k lt = h (suc k) (omega arith)

  apart_head : (a : List ℕ × AttrValue) (others : List (List ℕ × AttrValue)) → IsApart (a ∷ others) →
      bytes_eq a.0 name ≡ false
  unfolding IsApart
  apart_head a others h = h 0 (omega arith)

  apart_value : (attributes : List (List ℕ × AttrValue)) → IsApart attributes → value_at name attributes ≡ None
  apart_value [] h = refl
  apart_value (a ∷ others) h = rw (apart_head a others h) (apart_value others (apart_tail a others h))

  apart_without : (attributes : List (List ℕ × AttrValue)) → IsApart attributes → without name attributes ≡ attributes
  apart_without [] h = refl
  apart_without (a ∷ others) h =
      rw (apart_head a others h) (ap (λ x. a ∷ x) (apart_without others (apart_tail a others h)))

  pub gap_value : (attributes : List (List ℕ × AttrValue)) (i : ℕ) → IsGap (names_of attributes) name i →
      value_at name attributes ≡ None
  gap_value attributes i gap = apart_value attributes (apart attributes i gap)

  pub gap_without : (attributes : List (List ℕ × AttrValue)) (i : ℕ) → IsGap (names_of attributes) name i →
      without name attributes ≡ attributes
  gap_without attributes i gap = apart_without attributes (apart attributes i gap)

  pub gap_put : (value : AttrValue) (attributes : List (List ℕ × AttrValue)) (i : ℕ) →
      IsGap (names_of attributes) name i → put_at name value attributes ≡ insert attributes i (name, value)
  gap_put value [] zero gap = refl
  gap_put value [] (suc i) gap = absurd (omega (arith, gap.within))
  gap_put value (a ∷ others) zero gap = rw (gap.above 0 (omega arith) (omega arith))
  gap_put value (a ∷ others) (suc i) gap =
      rw (gap.below 0 (omega arith)) (ap (λ x. a ∷ x) (gap_put value others i (record {
        within =
            omega (arith, gap.within);
        below = λ k lt. gap.below (suc k) (omega arith);
        above =
            λ k le lt. gap.above (suc k) (omega arith) (omega arith);
      })))

-- ---- what stays lawful

names-insert : (attributes : List (List ℕ × AttrValue)) (i : ℕ) (a : List ℕ × AttrValue) →
    names_of (insert attributes i a) ≡ insert (names_of attributes) i a.0
names-insert [] zero a = refl
names-insert [] (suc i) a = refl
names-insert (x ∷ xs) zero a = refl
names-insert (x ∷ xs) (suc i) a = ap (λ y. x.0 ∷ y) (names-insert xs i a)

names-remove : (attributes : List (List ℕ × AttrValue)) (i : ℕ) →
    names_of (remove attributes i) ≡ remove (names_of attributes) i
names-remove [] zero = refl
names-remove [] (suc i) = refl
names-remove (x ∷ xs) zero = refl
names-remove (x ∷ xs) (suc i) = ap (λ y. x.0 ∷ y) (names-remove xs i)

module _ (attributes : List (List ℕ × AttrValue)) (h : IsLawfulItem attributes) where
  pub lawful_set : (name : List ℕ) (value : AttrValue) (i : ℕ) → IsLawfulAttribute (name, value) →
      i < length (names_of attributes) → get_or (names_of attributes) i [] ≡ name →
      IsLawfulItem (set attributes i (name, value))
  lawful_set name value i k lt is =
      let long : i < length attributes = omega (arith, length-map attributes (λ a. a.0)) in
      let same : names_of (set attributes i (name, value)) ≡ names_of attributes =
      map-set_same (λ a. a.0) attributes i (name, value) (name, value) (sym is ∙
      get_or-map (λ a. a.0) attributes i (name, value) [] long) in
      record {
        increasing = subst IsIncreasing (sym same) h.increasing;
        each =
            All-set IsLawfulAttribute attributes i (name, value) k h.each;
      }

  pub lawful_insert : (name : List ℕ) (value : AttrValue) (i : ℕ) → IsLawfulAttribute (name, value) →
      IsGap (names_of attributes) name i → IsLawfulItem (insert attributes i (name, value))
  lawful_insert name value i k gap = record {
    increasing = subst IsIncreasing (sym (names-insert attributes i (name, value)))
        (increasing_insert (names_of attributes) name i gap.within h.increasing gap);
    each = All-append IsLawfulAttribute (take i attributes) ((name, value) ∷ drop i attributes)
        (All-take IsLawfulAttribute i attributes h.each) (All-cons IsLawfulAttribute (name, value) (drop i attributes)
        k (All-drop IsLawfulAttribute i attributes h.each));
  }

  increasing_remove : (xs : List (List ℕ)) (i : ℕ) → i < length xs → IsIncreasing xs → IsIncreasing (remove xs i)
  increasing_remove xs i lt r a b below within =
      let long : length (remove xs i) + 1 ≡ length xs = length-remove xs i lt in
      elim (side a) [
        | inl low ↦ elim (side b) [
          | inl low' ↦ rw (get_or-remove_below xs i [] a low lt, get_or-remove_below xs i [] b low' lt)
              (r a b below (omega arith))
          | inr high' ↦ rw (get_or-remove_below xs i [] a low lt, get_or-remove_above xs i [] b high' lt)
              (r a (b + 1) (omega arith) (omega arith))
        ]
        | inr high ↦ rw (get_or-remove_above xs i [] a high lt, get_or-remove_above xs i [] b (omega arith) lt)
            (r (a + 1) (b + 1) (omega arith) (omega arith))
      ]
    where
      side : (k : ℕ) → (k < i) ⊎ (i ≤ k)
      side k = grind arith

  pub lawful_remove : (i : ℕ) → i < length (names_of attributes) → IsLawfulItem (remove attributes i)
  lawful_remove i lt = record {
    increasing = subst IsIncreasing (sym (names-remove attributes i)) (increasing_remove (names_of attributes) i lt
        h.increasing);
    each = All-append IsLawfulAttribute (take i attributes) (drop (suc i) attributes) (All-take IsLawfulAttribute i
        attributes h.each) (All-drop IsLawfulAttribute (suc i) attributes h.each);
  }

  pub lawful_push : (name : List ℕ) (value : AttrValue) → IsLawfulAttribute (name, value) →
      IsIncreasing (names_of attributes ++ name ∷ []) → IsLawfulItem (attributes ++ (name, value) ∷ [])
  lawful_push name value k r = record {
    increasing = subst IsIncreasing (sym (map-append (λ a. a.0) attributes ((name, value) ∷ []))) r;
    each = All-push IsLawfulAttribute attributes (name, value) h.each k;
  }

pub lawful_none : IsLawfulItem []
lawful_none = record { increasing = λ i j lt k. absurd (omega arith); each = λ i d lt. absurd (omega arith) }

-- what a comparison with a name that was read says of the name at its place
pub read_name : (attributes : List (List ℕ × AttrValue)) (name : List ℕ) (m : ℕ) (d : List ℕ ×
    AttrValue) (s : List ℕ) (o : Ordering) → m < length attributes → s ≡ (get_or attributes m d).0 →
    o ≡ order name s → order name (get_or (names_of attributes) m []) ≡ o
read_name attributes name m d s o lt same e = ap (order name) (get_or-map (λ x. x.0) attributes m d [] lt ∙
    sym same) ∙ sym e

-- the same of what a search for a name found
abbrev pub IsThere : List (List ℕ × AttrValue) → List ℕ → ℕ → Type 0
IsThere attributes name i = (i < length (names_of attributes)) × (get_or (names_of attributes) i [] ≡ name)

module _ (attributes seen : List (List ℕ × AttrValue)) (name sought : List ℕ) (i : ℕ) (h : IsLawfulItem attributes)
    (same : seen ≡ attributes) (named : sought ≡ name) where
  is_there : IsThere seen sought i → IsThere attributes name i
  is_there k = subst (λ x. IsThere attributes x i) named (subst (λ (x : List (List ℕ × AttrValue)). IsThere x sought
      i) same k)

  is_gap : IsGap (names_of seen) sought i → IsGap (names_of attributes) name i
  is_gap k = subst (λ x. IsGap (names_of attributes) x i) named
      (subst (λ (x : List (List ℕ × AttrValue)). IsGap (names_of x) sought i) same k)

  pub found_value : (d : List ℕ × AttrValue) → IsThere seen sought i →
      Some (get_or attributes i d).1 ≡ value_at name attributes
  found_value d k = let t = is_there k in sym (there_value name attributes i d h.increasing t.0 t.1)

  pub missed_value : IsGap (names_of seen) sought i → None ≡ value_at name attributes
  missed_value k = sym (gap_value name attributes i (is_gap k))

  pub found_put : (value : AttrValue) → IsThere seen sought i → set attributes i (name, value) ≡ put_at name value
      attributes
  found_put value k = let t = is_there k in sym (there_put name value attributes i h.increasing t.0 t.1)

  pub missed_put : (value : AttrValue) → IsGap (names_of seen) sought i → insert attributes i (
    name,
    value,
  ) ≡ put_at name value attributes
  missed_put value k = sym (gap_put name value attributes i (is_gap k))

  pub found_without : IsThere seen sought i → remove attributes i ≡ without name attributes
  found_without k = let t = is_there k in sym (there_without name attributes i h.increasing t.0 t.1)

  pub missed_without : IsGap (names_of seen) sought i → attributes ≡ without name attributes
  missed_without k = sym (gap_without name attributes i (is_gap k))

  pub set_lawful : (value : AttrValue) → IsUtf8 name → is_name name ≡ true → IsLawful 32 (view value) →
      IsThere seen sought i → IsLawfulItem (set attributes i (name, value))
  set_lawful value u n v k = let t = is_there k in lawful_set attributes h name value i (record {
    text = u;
    name = n;
    value = v;
  }) t.0 t.1

  pub insert_lawful : (value : AttrValue) → IsUtf8 name → is_name name ≡ true → IsLawful 32 (view value) →
      IsGap (names_of seen) sought i → IsLawfulItem (insert attributes i (name, value))
  insert_lawful value u n v k = lawful_insert attributes h name value i (record { text = u; name = n; value = v })
      (is_gap k)

  pub remove_lawful : IsThere seen sought i → IsLawfulItem (remove attributes i)
  remove_lawful k = lawful_remove attributes h i (is_there k).0
