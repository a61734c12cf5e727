-- The values at names, after puts and behind filters.
use Rattle.std.proofs.Common.{◌≡◌, ℕ, Bool, true, false, not, ◌||◌, List, [], ◌∷◌, ◌++◌, Some, None, Option}
use Rattle.std.proofs.Common.{if◌then◌else◌, cond, map, filter, fold, find, bytes_eq, refl, sym, ap, ◌∙◌, Ordering}
use Rattle.std.proofs.Common.{Less, Equal, Greater, nat_cmp}
use Rattle.std.specs.Ordering.{is_eq, match_ordering}
use Rattle.std.specs.Cmp.Lexicographic.{slice_cmp}
use Rattle.std.proofs.lemmas.Map.Text.{is_eq-slice_cmp}
use Rattle.std.proofs.lemmas.Slice.Eq.{bytes_eq-Decides}
use Rattle.dbe_values.specs.Attributes.{value_at, put_at}
use Rattle.dbe_values.specs.declared.value.AttrValue.{AttrValue}
use Rattle.dbe_values.proofs.Lookups.{same_name}
use Rattle.dbe_config.specs.Setting.{Setting}
use Rattle.dbe_config.specs.Rules.{is_among, compound_names, virtual_names}
use Rattle.dbe_config.specs.declared.compound.Compound.{Compound}
use Rattle.dbe_config.specs.declared.virtual_field.Virtual.{Virtual}
use Rattle.dbe_fields.specs.Virtuals.{virtual_named, virtual_or_attribute}
use Rattle.dbe_fields.specs.Compounds.{compound_named}
use Rattle.dbe_fields.specs.Plain.{is_computed, compound_or_field, plain, plain_among}
use Rattle.dbe_fields.specs.Extended.{with_value, uncomputed, computed_names, extended}

-- ---- a put

swap_by : (x y : List ℕ) (a b : Bool) → bytes_eq x y ≡ a → bytes_eq y x ≡ b → a ≡ b
swap_by x y true true h k = refl
swap_by x y false false h k = refl
swap_by x y true false h k = let e : bytes_eq y x ≡ true = (bytes_eq-Decides y x).1 (sym ((bytes_eq-Decides x y).0 h))
    in cc
swap_by x y false true h k = let e : bytes_eq x y ≡ true = (bytes_eq-Decides x y).1 (sym ((bytes_eq-Decides y x).0 k))
    in cc

bytes_eq_swap : (x y : List ℕ) → bytes_eq x y ≡ bytes_eq y x
bytes_eq_swap x y = swap_by x y (bytes_eq x y) (bytes_eq y x) refl refl

or_assoc : (a b c : Bool) → (a || (b || c)) ≡ ((a || b) || c)
or_assoc true b c = refl
or_assoc false b c = refl

twice : {A : Type 0} (b : Bool) (x y z : A) → (if b then x else z) ≡ (if b then x else (if b then y else z))
twice true x y z = refl
twice false x y z = refl

module _ (n m : List ℕ) (v : AttrValue) (a : List ℕ × AttrValue) (others : List (List ℕ × AttrValue))
    (more : value_at n (put_at m v others) ≡ (if bytes_eq m n then Some v else value_at n others)) where
  behind : bytes_eq m a.0 ≡ false → (b : Bool) → bytes_eq a.0 n ≡ b →
      (if b then Some a.1 else value_at n (put_at m v others)) ≡ (if bytes_eq m n then Some v else
      (if b then Some a.1 else value_at n others))
  behind apart true same =
      let is : a.0 ≡ n = (bytes_eq-Decides a.0 n).0 same in
      let other : bytes_eq m n ≡ false = ap (bytes_eq m) (sym is) ∙ apart in
      rw other refl
  behind apart false same = more

  put_by : (o : Ordering) → slice_cmp nat_cmp m a.0 ≡ o
      → value_at n (match_ordering o ((m, v) ∷ a ∷ others) ((m, v) ∷ others) (a ∷ put_at m v others)) ≡
      (if bytes_eq m n then Some v else value_at n (a ∷ others))
  put_by Less e = refl
  put_by Equal e = twice (bytes_eq m n) (Some v) (Some a.1) (value_at n others) ∙
      ap (λ x. if bytes_eq m n then Some v else (if bytes_eq x n then Some a.1 else value_at n others))
      (sym (same_name m a.0 e))
  put_by Greater e = behind (sym (is_eq-slice_cmp m a.0) ∙ ap is_eq e) (bytes_eq a.0 n) refl

value_put : (n m : List ℕ) (v : AttrValue) (row : List (List ℕ × AttrValue)) →
    value_at n (put_at m v row) ≡ (if bytes_eq m n then Some v else value_at n row)
value_put n m v [] = refl
value_put n m v (a ∷ others) = put_by n m v a others (value_put n m v others) (slice_cmp nat_cmp m a.0) refl

-- ---- puts one after another

module _ (f : List ℕ → Option AttrValue) (n : List ℕ) where
  set_at : List (List ℕ × AttrValue) → List ℕ → List (List ℕ × AttrValue)
  set_at r m = with_value m (f m) r

  -- what is put at another name, or nothing
  unset_by : (m : List ℕ) (o : Option AttrValue) (r : List (List ℕ × AttrValue)) → bytes_eq m n ≡ false →
      value_at n (with_value m o r) ≡ value_at n r
  unset_by m None r apart = refl
  unset_by m (Some v) r apart = value_put n m v r ∙ rw apart refl

  none_by : (m : List ℕ) (r : List (List ℕ × AttrValue)) → f n ≡ None → (b : Bool) → bytes_eq m n ≡ b →
      value_at n (with_value m (f m) r) ≡ value_at n r
  none_by m r none true same =
      let is : f m ≡ None = ap f ((bytes_eq-Decides m n).0 same) ∙ none in
      ap (λ o. value_at n (with_value m o r)) is
  none_by m r none false apart = unset_by m (f m) r apart

  some_by : (m : List ℕ) (v : AttrValue) (r : List (List ℕ × AttrValue)) → f n ≡ Some v → bytes_eq m n ≡ true →
      value_at n (with_value m (f m) r) ≡ Some v
  some_by m v r some same =
      let is : f m ≡ Some v = ap f ((bytes_eq-Decides m n).0 same) ∙ some in
      ap (λ o. value_at n (with_value m o r)) is ∙ value_put n m v r ∙ rw same refl

  stays_by : (m : List ℕ) (v : AttrValue) (r : List (List ℕ × AttrValue)) → f n ≡ Some v → value_at n r ≡ Some v →
      (b : Bool) → bytes_eq m n ≡ b → value_at n (with_value m (f m) r) ≡ Some v
  stays_by m v r some has true same = some_by m v r some same
  stays_by m v r some has false apart = unset_by m (f m) r apart ∙ has

  puts_none : (names : List (List ℕ)) (r : List (List ℕ × AttrValue)) → f n ≡ None →
      value_at n (fold (λ r m. with_value m (f m) r) r names) ≡ value_at n r
  puts_none [] r none = refl
  puts_none (m ∷ names) r none = puts_none names (with_value m (f m) r) none ∙ none_by m r none (bytes_eq m n) refl

  puts_stay : (names : List (List ℕ)) (v : AttrValue) (r : List (List ℕ × AttrValue)) → f n ≡ Some v →
      value_at n r ≡ Some v → value_at n (fold (λ r m. with_value m (f m) r) r names) ≡ Some v
  puts_stay [] v r some has = has
  puts_stay (m ∷ names) v r some has =
      puts_stay names v (with_value m (f m) r) some (stays_by m v r some has (bytes_eq m n) refl)

  turned : (m : List ℕ) → bytes_eq n m ≡ false → bytes_eq m n ≡ false
  turned m e = bytes_eq_swap m n ∙ e

  same_both : (x y : List ℕ) → bytes_eq x y ≡ true → bytes_eq y x ≡ true
  same_both x y e = (bytes_eq-Decides y x).1 (sym ((bytes_eq-Decides x y).0 e))

  some_here : (m : List ℕ) (names : List (List ℕ)) (v : AttrValue) (r : List (List ℕ × AttrValue)) → f n ≡ Some v →
      is_among n (m ∷ names) ≡ true
      → (is_among n names ≡ true → value_at n (fold (λ r m. with_value m (f m) r) (with_value m (f m) r) names) ≡ Some
      v)
      → (b : Bool) → bytes_eq n m ≡ b → value_at n (fold (λ r m. with_value m (f m) r) (with_value m (f m) r) names) ≡
      Some v
  some_here m names v r some among later true same =
      puts_stay names v (with_value m (f m) r) some (some_by m v r some (same_both n m same))
  some_here m names v r some among later false apart = later (rw apart at among)

  puts_some : (names : List (List ℕ)) (v : AttrValue) (r : List (List ℕ × AttrValue)) → f n ≡ Some v →
      is_among n names ≡ true → value_at n (fold (λ r m. with_value m (f m) r) r names) ≡ Some v
  puts_some [] v r some among = absurd (cc)
  puts_some (m ∷ names) v r some among = some_here m names v r some among (puts_some names v (with_value m (f m) r)
      some) (bytes_eq n m) refl

  apart_here : (m : List ℕ) (names : List (List ℕ)) → is_among n (m ∷ names) ≡ false → (b : Bool) → bytes_eq n m ≡ b →
      (bytes_eq m n ≡ false) × (is_among n names ≡ false)
  apart_here m names among true same = let h = rw same at among in absurd (cc)
  apart_here m names among false other = (turned m other, rw other at among)

  puts_apart : (names : List (List ℕ)) (r : List (List ℕ × AttrValue)) → is_among n names ≡ false →
      value_at n (fold (λ r m. with_value m (f m) r) r names) ≡ value_at n r
  puts_apart [] r among = refl
  puts_apart (m ∷ names) r among =
      let both = apart_here m names among (bytes_eq n m) refl in
      puts_apart names (with_value m (f m) r) both.1 ∙ unset_by m (f m) r both.0

-- ---- attributes that pass a test on their names

module _ (test : List ℕ → Bool) (n : List ℕ) where
  passed_by : (a : List ℕ × AttrValue) (kept others : List (List ℕ × AttrValue)) → test n ≡ true →
      value_at n kept ≡ value_at n others → (b : Bool) → bytes_eq a.0 n ≡ b → (t : Bool) → test a.0 ≡ t
      → value_at n (cond t (a ∷ kept) kept) ≡ (if b then Some a.1 else value_at n others)
  passed_by a kept others pass more true same true is = rw same refl
  passed_by a kept others pass more true same false is = absurd (let e : test n ≡ false =
      ap test (sym ((bytes_eq-Decides a.0 n).0 same)) ∙ is in cc)
  passed_by a kept others pass more false apart true is = rw apart more
  passed_by a kept others pass more false apart false is = more

  value_passed : (row : List (List ℕ × AttrValue)) → test n ≡ true →
      value_at n (filter (λ a. test a.0) row) ≡ value_at n row
  value_passed [] pass = refl
  value_passed (a ∷ others) pass = passed_by a (filter (λ a. test a.0) others) others pass (value_passed others pass)
      (bytes_eq a.0 n) refl (test a.0) refl

  failed_by : (a : List ℕ × AttrValue) (kept : List (List ℕ × AttrValue)) → test n ≡ false → value_at n kept ≡ None →
      (b : Bool) → bytes_eq a.0 n ≡ b → (t : Bool) → test a.0 ≡ t
      → value_at n (cond t (a ∷ kept) kept) ≡ None
  failed_by a kept fail none b same false is = none
  failed_by a kept fail none true same true is = absurd (let e : test n ≡ true =
      ap test (sym ((bytes_eq-Decides a.0 n).0 same)) ∙ is in cc)
  failed_by a kept fail none false apart true is = rw apart none

  value_failed : (row : List (List ℕ × AttrValue)) → test n ≡ false → value_at n (filter (λ a. test a.0) row) ≡ None
  value_failed [] fail = refl
  value_failed (a ∷ others) fail = failed_by a (filter (λ a. test a.0) others) fail (value_failed others fail)
      (bytes_eq a.0 n) refl (test a.0) refl

-- ---- names that are not computed

module _ {A : Type 0} (f : A → List ℕ) (n : List ℕ) where
  unfound_by : (x : A) (xs : List A) → is_among n (map f (x ∷ xs)) ≡ false → (is_among n (map f xs) ≡ false →
      find (λ x. bytes_eq n (f x)) xs ≡ None) → (b : Bool) → bytes_eq n (f x) ≡ b →
      find (λ x. bytes_eq n (f x)) (x ∷ xs) ≡ None
  unfound_by x xs among more true same = let h = rw same at among in absurd (cc)
  unfound_by x xs among more false apart = rw apart (more (rw apart at among))

  unfound : (xs : List A) → is_among n (map f xs) ≡ false → find (λ x. bytes_eq n (f x)) xs ≡ None
  unfound [] among = refl
  unfound (x ∷ xs) among = unfound_by x xs among (unfound xs) (bytes_eq n (f x)) refl

module _ {A : Type 0} (f : A → List ℕ) (n : List ℕ) where
  missing_by : (x : A) (xs : List A) → (None ≡ find (λ x. bytes_eq n (f x)) xs → is_among n (map f xs) ≡ false) →
      (b : Bool) → bytes_eq n (f x) ≡ b → None ≡ cond b (Some x) (find (λ x. bytes_eq n (f x)) xs) →
      is_among n (map f (x ∷ xs)) ≡ false
  missing_by x xs more true same none = absurd (cc)
  missing_by x xs more false apart none = rw apart (more none)

  missing : (xs : List A) → None ≡ find (λ x. bytes_eq n (f x)) xs → is_among n (map f xs) ≡ false
  missing [] none = refl
  missing (x ∷ xs) none = missing_by x xs (missing xs) (bytes_eq n (f x)) refl none

pub not_computed : (s : Setting) (name : List ℕ) → None ≡ compound_named s name → None ≡ virtual_named s name →
    is_computed s name ≡ false
not_computed s name compound field = rw (missing (λ (c : Compound). c.name) name s.compounds compound)
    (missing (λ (v : Virtual). v.name) name s.virtuals field)

neither : (a b : Bool) → (a || b) ≡ false → (a ≡ false) × (b ≡ false)
neither true b h = absurd (cc)
neither false b h = (refl, h)

pub plain-attribute : (s : Setting) (name : List ℕ) (row : List (List ℕ × AttrValue)) → is_computed s name ≡ false →
    plain s name row ≡ value_at name row
unfolding plain
plain-attribute s name row not_computed =
    let both = neither (is_among name (compound_names s.compounds)) (is_among name (virtual_names s.virtuals))
    not_computed in
    let compound : compound_named s name ≡ None = unfound (λ (c : Compound). c.name) name s.compounds both.0 in
    let field : virtual_named s name ≡ None = unfound (λ (v : Virtual). v.name) name s.virtuals both.1 in
    ap (λ o. compound_or_field o s name row) compound ∙ ap (λ o. virtual_or_attribute o name row) field

among-append : (n : List ℕ) (xs ys : List (List ℕ)) → is_among n (xs ++ ys) ≡ (is_among n xs || is_among n ys)
among-append n [] ys = refl
among-append n (x ∷ xs) ys = ap (λ b. bytes_eq n x || b) (among-append n xs ys) ∙
    or_assoc (bytes_eq n x) (is_among n xs) (is_among n ys)

-- ---- an extended item

computed_by : (s : Setting) (row : List (List ℕ × AttrValue)) (name : List ℕ) (o : Option AttrValue) →
    plain s name row ≡ o → (b : Bool) → is_computed s name ≡ b
    → value_at name (fold (λ r m. with_value m (plain s m row) r) (uncomputed s row) (computed_names s)) ≡ plain s
    name row
computed_by s row name o is false free =
    let among : is_among name (computed_names s) ≡ false =
    among-append name (compound_names s.compounds) (virtual_names s.virtuals) ∙ free in
    puts_apart (λ m. plain s m row) name (computed_names s) (uncomputed s row) among ∙
    value_passed (λ m. not (is_computed s m)) name row (ap not free) ∙ sym (plain-attribute s name row free)
computed_by s row name None is true taken =
    puts_none (λ m. plain s m row) name (computed_names s) (uncomputed s row) is ∙
    value_failed (λ m. not (is_computed s m)) name row (ap not taken) ∙ sym is
computed_by s row name (Some v) is true taken =
    let among : is_among name (computed_names s) ≡ true =
    among-append name (compound_names s.compounds) (virtual_names s.virtuals) ∙ taken in
    puts_some (λ m. plain s m row) name (computed_names s) v (uncomputed s row) is among ∙ sym is

pub value-extended : (s : Setting) (row : List (List ℕ × AttrValue)) (name : List ℕ) →
    value_at name (extended s row) ≡ plain s name row
unfolding extended
value-extended s row name = computed_by s row name (plain s name row) refl (is_computed s name) refl

-- ---- an item of the values of some names

among_by : (names : List (List ℕ)) (s : Setting) (row : List (List ℕ × AttrValue)) (name : List ℕ)
    (o : Option AttrValue) → plain s name row ≡ o → (b : Bool) → is_among name names ≡ b
    → value_at name (fold (λ r m. with_value m (plain s m row) r) [] names) ≡ (if b then o else None)
among_by names s row name o is false apart = puts_apart (λ m. plain s m row) name names [] apart
among_by names s row name None is true among = puts_none (λ m. plain s m row) name names [] is
among_by names s row name (Some v) is true among = puts_some (λ m. plain s m row) name names v [] is among

pub value-among : (names : List (List ℕ)) (s : Setting) (row : List (List ℕ × AttrValue)) (name : List ℕ) →
    value_at name (fold (λ r m. with_value m (plain s m row) r) [] names) ≡ plain_among names s name row
value-among names s row name = among_by names s row name (plain s name row) refl (is_among name names) refl
