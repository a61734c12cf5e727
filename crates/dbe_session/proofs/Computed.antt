-- Conditions in which no virtual field and no compound stands.
use Rattle.std.proofs.Common.{◌≡◌, ℕ, Bool, true, false, ◌||◌, not, if◌then◌else◌, List, [], ◌∷◌, ◌++◌, bytes_eq}
use Rattle.std.proofs.Common.{refl, sym, ap, ◌∙◌, subst, filter}
use Rattle.std.specs.List.{list_any, flat_map}
use Rattle.std.proofs.lemmas.List.Folds.{list_any-append}
use Rattle.std.proofs.lemmas.List.Concat.{flat_map-cons}
use Rattle.std.proofs.lemmas.Slice.Eq.{bytes_eq-Decides}
use Rattle.dbe_values.specs.Attributes.{value_at}
use Rattle.dbe_config.specs.Setting.{Setting}
use Rattle.dbe_config.specs.Rules.{is_among}
use Rattle.dbe_fields.specs.Plain.{is_computed, plain_among}
use Rattle.dbe_fields.specs.Extended.{extended}
use Rattle.dbe_fields.proofs.Values.{value-extended, plain-attribute}
use Rattle.dbe_tokens.specs.declared.token.Op.TheVariants.{Eq}
use Rattle.dbe_cond.specs.Condition.{Condition, Conditions}
use Rattle.dbe_cond.specs.Condition as c
use Rattle.dbe_cond.specs.declared.operand.Operand.{Operand}
use Rattle.dbe_cond.specs.declared.operand.Operand.TheVariants as o
use Rattle.dbe_cond.specs.Meaning.{value_of, holds, all_hold, one_holds, compares}
use Rattle.dbe_cond.specs.Names.{operand_names, names_of, names_of_all}
use Rattle.dbe_cond.specs.declared.wanted.Wanted.TheVariants.{Every}
use Rattle.dbe_table.specs.Rows.{Row, wanted_rows}
use Rattle.dbe_session.specs.Reply.{Environment, State, has_computed, selects, handed_out}

neither : (a b : Bool) → a || b ≡ false → (a ≡ false) × (b ≡ false)
neither true b h = absurd (cc)
neither false b h = (refl, h)

or_left : (a b : Bool) → a ≡ true → (a || b) ≡ true
or_left a b e = rw e refl

or_right : (a b : Bool) → b ≡ true → (a || b) ≡ true
or_right true b e = refl
or_right false b e = e

-- ---- a condition means the same over items that have the same values at its names

AreAlike : Row → Row → List (List ℕ) → Type 0
AreAlike row other names = (name : List ℕ) → is_among name names ≡ true → value_at name row ≡ value_at name other

module _ (row other : Row) where
  apart : (xs ys : List (List ℕ)) → AreAlike row other (xs ++ ys) → AreAlike row other xs × AreAlike row other ys
  unfolding AreAlike
  apart xs ys h = (
    λ name among. h name (list_any-append (bytes_eq name) xs ys ∙ or_left _ _ among),
    λ name among. h name (list_any-append (bytes_eq name) xs ys ∙ or_right _ _ among),
  )

  first : (name : List ℕ) (names : List (List ℕ)) → AreAlike row other (name ∷ names) →
      value_at name row ≡ value_at name other
  unfolding AreAlike
  first name names h = h name (or_left _ _ ((bytes_eq-Decides name name).1 refl))

  others : (name : List ℕ) (names : List (List ℕ)) → AreAlike row other (name ∷ names) → AreAlike row other names
  unfolding AreAlike
  others name names h = λ n among. h n (or_right _ _ among)

  operand_alike : (a : Operand) → AreAlike row other (operand_names a) → value_of a row ≡ value_of a other
  operand_alike (o.Name name) h = first name [] h
  operand_alike (o.Value v) h = refl

  abbrev equals : Row → Operand → Operand → Bool
  equals item value a = compares Eq (value_of value item) (value_of a item)

  list_alike : (value : Operand) (list : List Operand) → AreAlike row other (operand_names value) →
      AreAlike row other (flat_map operand_names list) →
      list_any (equals row value) list ≡ list_any (equals other value) list
  list_alike value [] h k = refl
  list_alike value (a ∷ list) h k =
      let both = apart (operand_names a) (flat_map operand_names list) (subst (AreAlike row other)
      (flat_map-cons operand_names a list) k) in
      rw (operand_alike value h, operand_alike a both.0, list_alike value list h both.1) refl

  mutual
    holds_alike : (cond : Condition) → AreAlike row other (names_of cond) → holds cond row ≡ holds cond other
    holds_alike (c.compare left op right) h =
        let both = apart (operand_names left) (operand_names right) h in
        rw (operand_alike left both.0, operand_alike right both.1) refl
    holds_alike (c.between value low high) h =
        let most = apart (operand_names value ++ operand_names low) (operand_names high) h in
        let both = apart (operand_names value) (operand_names low) most.0 in
        rw (operand_alike value both.0, operand_alike low both.1, operand_alike high most.1) refl
    holds_alike (c.within value list) h = let both = apart (operand_names value) (flat_map operand_names list) h in
        list_alike value list both.0 both.1
    holds_alike (c.begins name front) h = rw (
      first name (operand_names front) h,
      operand_alike front (others name (operand_names front) h),
    ) refl
    holds_alike (c.exists name) h = rw (first name [] h) refl
    holds_alike (c.lacks name) h = rw (first name [] h) refl
    holds_alike (c.not inner) h = ap not (holds_alike inner h)
    holds_alike (c.and members) h = all_alike members h
    holds_alike (c.or members) h = one_alike members h

    all_alike : (members : Conditions) → AreAlike row other (names_of_all members) →
        all_hold members row ≡ all_hold members other
    all_alike c.none h = refl
    all_alike (c.some member members) h = let both = apart (names_of member) (names_of_all members) h in
        rw (holds_alike member both.0, all_alike members both.1) refl

    one_alike : (members : Conditions) → AreAlike row other (names_of_all members) →
        one_holds members row ≡ one_holds members other
    one_alike c.none h = refl
    one_alike (c.some member members) h = let both = apart (names_of member) (names_of_all members) h in
        rw (holds_alike member both.0, one_alike members both.1) refl

-- ---- the extended item, and an item with the values of the condition's names alone

-- none of some names passes a test, so one of them does not
fails_here : (p : List ℕ → Bool) (name n : List ℕ) (names : List (List ℕ)) → p n ≡ false →
    is_among name (n ∷ names) ≡ true → (is_among name names ≡ true → p name ≡ false) → (b : Bool) →
    bytes_eq name n ≡ b → p name ≡ false
fails_here p name n names fails among later true same = ap p ((bytes_eq-Decides name n).0 same) ∙ fails
fails_here p name n names fails among later false other = later (rw other at among)

fails_among : (p : List ℕ → Bool) (name : List ℕ) (names : List (List ℕ)) → list_any p names ≡ false →
    is_among name names ≡ true → p name ≡ false
fails_among p name [] none among = absurd (cc)
fails_among p name (n ∷ names) none among = let both = neither (p n) (list_any p names) none in
    fails_here p name n names both.0 among (fails_among p name names both.1) (bytes_eq name n) refl

-- a condition without virtual fields and compounds selects an item exactly where it holds of the item
pub selects_same : (s : Setting) (cond : Condition) (row : Row) → has_computed s cond ≡ false →
    selects s cond row ≡ holds cond row
unfolding AreAlike
selects_same s cond row h =
    holds_alike (extended s row) row cond (λ name among. value-extended s row name ∙
    plain-attribute s name row (fails_among (is_computed s) name (names_of cond) h among))

-- it selects an item exactly where it holds of an item with the values of its names
pub selects_by : (s : Setting) (cond : Condition) (row valued : Row) (names : List (List ℕ)) →
    ((name : List ℕ) → is_among name names ≡ is_among name (names_of cond))
    → ((name : List ℕ) → value_at name valued ≡ plain_among names s name row) → holds cond valued ≡ selects s cond row
unfolding AreAlike
selects_by s cond row valued names same are =
    holds_alike valued (extended s row) cond (λ name among. are name ∙ rw (same name ∙ among) refl ∙
    sym (value-extended s row name))

-- ---- of the rows that are handed out the same are selected as of all

filter_if : (p : Row → Bool) (x : Row) (xs all : List Row) (t : Bool) → p x ≡ t → filter p xs ≡ filter p all →
    filter p (if t then x ∷ xs else xs) ≡ (if t then x ∷ filter p all else filter p all)
filter_if p x xs all true e h = rw (e, h) refl
filter_if p x xs all false e h = h

filter_through : (p q : Row → Bool) (xs : List Row) → ((x : Row) → p x ≡ q x) → filter p (filter q xs) ≡ filter p xs
filter_through p q [] same = refl
filter_through p q (x ∷ xs) same = let here : p x ≡ q x = same x in
    rw here (filter_if p x (filter q xs) xs (q x) here (filter_through p q xs same))

selected_by : (s : Setting) (cond : Condition) (rows : List Row) (t : Bool) → has_computed s cond ≡ t →
    filter (selects s cond) (if t then rows else filter (holds cond) rows) ≡ filter (selects s cond) rows
selected_by s cond rows true is = refl
selected_by s cond rows false is = filter_through (selects s cond) (holds cond) rows (λ row. selects_same s cond row is)

pub selected_handed_out : (e : Environment) (s : State) (cond : Condition) →
    filter (selects e.config cond) (handed_out e s cond) ≡ filter (selects e.config cond) s.rows
selected_handed_out e s cond = selected_by e.config cond s.rows (has_computed e.config cond) refl

-- ---- where one stands every row is asked for

every_row : (rows : List Row) → wanted_rows Every rows ≡ rows
every_row [] = refl
every_row (row ∷ rows) = ap (λ others. row ∷ others) (every_row rows)

pub every_handed_out : (e : Environment) (s : State) (cond : Condition) → has_computed e.config cond ≡ true →
    wanted_rows Every s.rows ≡ handed_out e s cond
every_handed_out e s cond h = every_row s.rows ∙ rw h refl
