-- Lists in a strict order, with an element put at its place.
use Rattle.std.proofs.Common.{◌≡◌, ◌⊎◌, inl, inr, ◌∙◌, suc, true, false, if◌then◌else◌, List, [], ◌∷◌, ◌++◌, filter}
use Rattle.std.proofs.Common.{refl, sym, ap, Ordering, Less, Equal, Greater, Some, None, is_eq, arith, subst}
use Rattle.std.proofs.Common.{append_assoc}
use Rattle.std.specs.declared.option.Option.{Option}
use Rattle.std.specs.Cmp.{IsTotalOrder, on_total}
use Rattle.std.specs.List.{All, AllByRecursion}
use Rattle.std.specs.List.Sorted.{IsStrictlySortedBy}
use Rattle.std.specs.Ordering.{match_ordering, ordering_reverse, is_lt, on}
use Rattle.std.proofs.lemmas.List.Elements.{All-nil, All-cons}
use Rattle.dbe_values.specs.Val.{Val}
use Rattle.dbe_values.specs.declared.key.KeySchema.{KeySchema}
use Rattle.dbe_values.specs.Keys.{has_key, key_of, key_order, row_order}
use Rattle.dbe_values.specs.KeyValues.{key_order-total}
use Rattle.dbe_table.specs.Rows.{Row, IsTable, put_row, row_at}

abbrev pub place : {X : Type 0} → (X → X → Ordering) → X → List X → List X
place R x [] = x ∷ []
place R x (y ∷ ys) = match_ordering (R x y) (x ∷ y ∷ ys) (x ∷ ys) (y ∷ place R x ys)

module _ {X : Type 0} {R : X → X → Ordering} (o : IsTotalOrder R) (x : X) where
  -- what is above one that is not below x is above x
  above_all : (low : X) (ys : List X) (r : Ordering) → R x low ≡ r → (r ≡ Less) ⊎ (r ≡ Equal) →
      AllByRecursion (λ y. R low y ≡ Less) ys → AllByRecursion (λ y. R x y ≡ Less) ys
  above_all low [] r is le h = h
  above_all low (y ∷ ys) r is (inl less) h = (o.trans x low y (is ∙ less) h.0, above_all low ys r is (inl less) h.1)
  above_all low (y ∷ ys) r is (inr same) h = (o.congr x low y (is ∙ same) ∙ h.0, above_all low ys r is (inr same) h.1)

  back : (y : X) (r : Ordering) → R x y ≡ r → R y x ≡ ordering_reverse r
  back y r is = o.antisymm y x ∙ ap ordering_reverse is

  below_none : (ys : List X) → AllByRecursion (λ y. R x y ≡ Less) ys → filter (λ y. is_lt (R y x)) ys ≡ []
  below_none [] h = refl
  below_none (y ∷ ys) h = rw (back y Less h.0) (below_none ys h.1)

  all_above : (ys : List X) → AllByRecursion (λ y. R x y ≡ Less) ys → filter (λ y. is_lt (R x y)) ys ≡ ys
  all_above [] h = refl
  all_above (y ∷ ys) h = rw (h.0, all_above ys h.1) refl

  place_at : (y : X) (ys : List X) (r : Ordering) → R x y ≡ r → AllByRecursion (λ z. R y z ≡ Less) ys →
      place R x ys ≡ filter (λ z. is_lt (R z x)) ys ++ x ∷ filter (λ z. is_lt (R x z)) ys
      → match_ordering r (x ∷ y ∷ ys) (x ∷ ys) (y ∷ place R x ys) ≡ filter (λ z. is_lt (R z x)) (y ∷ ys) ++ x ∷ filter
      (λ z. is_lt (R x z)) (y ∷ ys)
  place_at y ys Less is above later =
      let all = above_all y ys Less is (inl refl) above in
      rw (back y Less is, is, below_none ys all, all_above ys all) refl
  place_at y ys Equal is above later =
      let all = above_all y ys Equal is (inr refl) above in
      rw (back y Equal is, is, below_none ys all, all_above ys all) refl
  place_at y ys Greater is above later = rw (back y Greater is, is) (ap (λ zs. y ∷ zs) later)

  -- the elements below it, it, and those above
  pub place-parts : (ys : List X) → IsStrictlySortedBy R ys → place R x ys ≡ filter (λ y. is_lt (R y x)) ys ++ x ∷
      filter (λ y. is_lt (R x y)) ys
  unfolding IsStrictlySortedBy
  place-parts [] h = refl
  place-parts (y ∷ ys) h = place_at y ys (R x y) refl h.0 (place-parts ys h.1)

  -- it keeps the order
  low_by : (low y : X) (ys put : List X) (r : Ordering) → R low x ≡ Less → R low y ≡ Less →
      AllByRecursion (λ z. R low z ≡ Less) ys → AllByRecursion (λ z. R low z ≡ Less) put
      → AllByRecursion (λ z. R low z ≡ Less) (match_ordering r (x ∷ y ∷ ys) (x ∷ ys) (y ∷ put))
  low_by low y ys put Less lt next later puts = (lt, (next, later))
  low_by low y ys put Equal lt next later puts = (lt, later)
  low_by low y ys put Greater lt next later puts = (next, puts)

  low_place : (low : X) (ys : List X) → R low x ≡ Less → AllByRecursion (λ z. R low z ≡ Less) ys →
      AllByRecursion (λ z. R low z ≡ Less) (place R x ys)
  low_place low [] lt h = (lt, tt)
  low_place low (y ∷ ys) lt h = low_by low y ys (place R x ys) (R x y) lt h.0 h.1 (low_place low ys lt h.1)

  sorted_by : (y : X) (ys put : List X) (r : Ordering) → R x y ≡ r → AllByRecursion (λ z. R y z ≡ Less) ys →
      IsStrictlySortedBy R ys
      → (R y x ≡ Less → AllByRecursion (λ z. R y z ≡ Less) put) → IsStrictlySortedBy R put →
      IsStrictlySortedBy R (match_ordering r (x ∷ y ∷ ys) (x ∷ ys) (y ∷ put))
  unfolding IsStrictlySortedBy
  sorted_by y ys put Less is above order low puts = ((is, above_all y ys Less is (inl refl) above), (above, order))
  sorted_by y ys put Equal is above order low puts = (above_all y ys Equal is (inr refl) above, order)
  sorted_by y ys put Greater is above order low puts = (low (back y Greater is), puts)

  pub place-sorted : (ys : List X) → IsStrictlySortedBy R ys → IsStrictlySortedBy R (place R x ys)
  unfolding IsStrictlySortedBy
  place-sorted [] h = (tt, tt)
  place-sorted (y ∷ ys) h = sorted_by y ys (place R x ys) (R x y) refl h.0 h.1 (λ lt. low_place y ys lt h.0)
      (place-sorted ys h.1)

  -- an element above all others goes last
  above_last : (y : X) (ys others : List X) → AllByRecursion (λ z. R y z ≡ Less) (ys ++ x ∷ others) → R x y ≡ Greater
  above_last y [] others h = o.antisymm x y ∙ ap ordering_reverse h.0
  above_last y (z ∷ ys) others h = above_last y ys others h.1

  pub place-last : (ys others : List X) → IsStrictlySortedBy R (ys ++ x ∷ others) → place R x ys ≡ ys ++ x ∷ []
  unfolding IsStrictlySortedBy
  place-last [] others h = refl
  place-last (y ∷ ys) others h = rw (above_last y ys others h.0) (ap (λ zs. y ∷ zs) (place-last ys others h.1))

-- what holds of each element and of the one put holds of each after it
all_head : {X : Type 0} (P : X → Type 0) (y : X) (ys : List X) → All P (y ∷ ys) → P y
all_head P y ys h = h 0 y (omega arith)

all_tail : {X : Type 0} (P : X → Type 0) (y : X) (ys : List X) → All P (y ∷ ys) → All P ys
all_tail P y ys h = λ k d lt. h (suc k) d (omega arith)

all_by : {X : Type 0} (P : X → Type 0) (x y : X) (ys put : List X) (r : Ordering) → P x → P y → All P ys → All P put →
    All P (match_ordering r (x ∷ y ∷ ys) (x ∷ ys) (y ∷ put))
all_by P x y ys put Less p q later puts = All-cons P x (y ∷ ys) p (All-cons P y ys q later)
all_by P x y ys put Equal p q later puts = All-cons P x ys p later
all_by P x y ys put Greater p q later puts = All-cons P y put q puts

pub all_place : {X : Type 0} (R : X → X → Ordering) (P : X → Type 0) (x : X) (ys : List X) → P x → All P ys →
    All P (place R x ys)
all_place R P x [] p h = All-cons P x [] p (All-nil P)
all_place R P x (y ∷ ys) p h = all_by P x y ys (place R x ys) (R x y) p (all_head P y ys h) (all_tail P y ys h)
    (all_place R P x ys p (all_tail P y ys h))

-- the first element whose key is equal to one
abbrev pub found_at : {X K : Type 0} → (X → K) → (K → K → Ordering) → K → List X → Option X
found_at f S key [] = None
found_at f S key (x ∷ xs) = if is_eq (S key (f x)) then Some x else found_at f S key xs

module _ {X K : Type 0} (f : X → K) {S : K → K → Ordering} (o : IsTotalOrder S) (key : K) (x : X) where
  apart : (y : X) (r s : Ordering) → S (f x) (f y) ≡ r → S key (f x) ≡ s → r ≡ Greater → s ≡ Equal →
      is_eq (S key (f y)) ≡ false
  apart y r s is at above same = ap is_eq (o.congr key (f x) (f y) (at ∙ same) ∙ is ∙ above)

  alike : (y : X) → S (f x) (f y) ≡ Equal → S key (f x) ≡ S key (f y)
  alike y same =
      let back : S (f y) (f x) ≡ Equal = o.antisymm (f y) (f x) ∙ ap ordering_reverse same in
      o.antisymm key (f x) ∙ ap ordering_reverse (o.congr (f x) (f y) key same) ∙ sym (o.antisymm key (f y))

  found_by : (y : X) (ys put : List X) (r s : Ordering) → S (f x) (f y) ≡ r → S key (f x) ≡ s →
      found_at f S key put ≡ (if is_eq s then Some x else found_at f S key ys)
      → found_at f S key (match_ordering r (x ∷ y ∷ ys) (x ∷ ys) (y ∷ put)) ≡ (if is_eq s then Some x else found_at f
      S key (y ∷ ys))
  found_by y ys put Less s is at later = rw at refl
  found_by y ys put Equal Equal is at later = rw at refl
  found_by y ys put Equal Less is at later = rw (at, (sym (alike y is) ∙ at)) refl
  found_by y ys put Equal Greater is at later = rw (at, (sym (alike y is) ∙ at)) refl
  found_by y ys put Greater Equal is at later = rw (apart y Greater Equal is at refl refl) later
  found_by y ys put Greater Less is at later = ap (λ rest. if is_eq (S key (f y)) then Some y else rest) later
  found_by y ys put Greater Greater is at later = ap (λ rest. if is_eq (S key (f y)) then Some y else rest) later

  pub found_at-place : (ys : List X) → found_at f S key (place (on f S) x ys) ≡ (if is_eq (S key (f x)) then Some x
      else found_at f S key ys)
  found_at-place [] = refl
  found_at-place (y ∷ ys) = found_by y ys (place (on f S) x ys) (S (f x) (f y)) (S key (f x)) refl refl
      (found_at-place ys)

-- ---- rows

pub row_order-total : (schema : KeySchema) → IsTotalOrder (row_order schema)
row_order-total schema = on_total (key_of schema) key_order-total

pub put_row-place : (schema : KeySchema) (row : Row) (rows : List Row) →
    put_row schema row rows ≡ place (row_order schema) row rows
put_row-place schema row [] = refl
put_row-place schema row (other ∷ others) =
    ap (λ rest. match_ordering (row_order schema row other) (row ∷ other ∷ others) (row ∷ others) (other ∷ rest))
    (put_row-place schema row others)

pub row_at-found : (schema : KeySchema) (key : Val × Option Val) (rows : List Row) →
    row_at schema key rows ≡ found_at (key_of schema) key_order key rows
row_at-found schema key [] = refl
row_at-found schema key (row ∷ rows) = ap (λ rest. if is_eq (key_order key (key_of schema row)) then Some row else
    rest) (row_at-found schema key rows)

pub row_at-put_row : (schema : KeySchema) (row : Row) (key : Val × Option Val) (rows : List Row) →
    row_at schema key (put_row schema row rows) ≡ (if is_eq (key_order key (key_of schema row)) then Some row else
    row_at schema key rows)
row_at-put_row schema row key rows =
    ap (row_at schema key) (put_row-place schema row rows) ∙
    row_at-found schema key (place (row_order schema) row rows) ∙
    found_at-place (key_of schema) key_order-total key row rows
    ∙ ap (λ rest. if is_eq (key_order key (key_of schema row)) then Some row else rest)
    (sym (row_at-found schema key rows))

pub table_put : (schema : KeySchema) (row : Row) (rows : List Row) → has_key schema row ≡ true → IsTable schema rows →
    IsTable schema (put_row schema row rows)
table_put schema row rows key table =
    let P : List Row → Type 0 = λ rows. IsTable schema rows in
    subst P (sym (put_row-place schema row rows)) (record {
      keys = all_place (row_order schema) (λ r. has_key schema r ≡ true) row rows key table.keys;
      order = place-sorted (row_order-total schema) row rows table.order;
    })

pub put_row-parts : (schema : KeySchema) (row : Row) (rows : List Row) → IsTable schema rows →
    put_row schema row rows ≡ filter (λ other. is_lt (row_order schema other row)) rows ++ row ∷ filter
    (λ other. is_lt (row_order schema row other)) rows
put_row-parts schema row rows table = put_row-place schema row rows ∙
    place-parts (row_order-total schema) row rows table.order

-- the rows that were put, with one more
pub put_last : (schema : KeySchema) (done left others : List Row) (row : Row) (after all : List Row) →
    left ≡ row ∷ others → done ++ left ≡ all → IsTable schema all → after ≡ put_row schema row done →
    after ++ others ≡ all
put_last schema done left others row after all is whole table put =
    let shape : done ++ row ∷ others ≡ all = ap (λ l. done ++ l) (sym is) ∙ whole in
    let P : List Row → Type 0 = λ l. IsStrictlySortedBy (row_order schema) l in
    ap (λ l. l ++ others) (put ∙ put_row-place schema row done ∙ place-last (row_order-total schema) row done others
    (subst P (sym shape) table.order)) ∙ append_assoc done (row ∷ []) others ∙ shape
