-- Rows in key order, tested one after another.
use Rattle.std.proofs.Common.{◌≡◌, ◌↔◌, ◌∙◌, ℕ, ◌&&◌, Bool, true, false, List, [], ◌∷◌, Option, Some, None, refl, sym}
use Rattle.std.proofs.Common.{ap, drop, ◌+◌, ◌<◌, ◌≤◌, get_or, Ordering, Less, Equal, Greater, suc, arith, length}
use Rattle.std.specs.List.{AllByRecursion}
use Rattle.std.specs.Bool.{IsTrue}
use Rattle.std.proofs.lemmas.List.{drop_more, drop_all}
use Rattle.std.specs.List.Sorted.{IsStrictlySortedBy}
use Rattle.std.specs.Ordering.{is_lt}
use Rattle.std.proofs.lemmas.List.Elements.{All-nil, All-cons}
use Rattle.dbe_values.specs.Val.{Val}
use Rattle.dbe_values.specs.declared.key.KeySchema.{KeySchema}
use Rattle.dbe_values.specs.Keys.{has_key, key_of, key_order}
use Rattle.dbe_values.specs.KeyValues.{key_order-total}
use Rattle.dbe_table.specs.Rows.{Row, IsTable}
use Rattle.dbe_table.specs.InMemory.{is_next}

-- whether rows have lawful keys, each above the last one
abbrev pub keys_rise : KeySchema → Option (Val × Option Val) → List Row → Bool
keys_rise schema last [] = true
keys_rise schema last (row ∷ rows) = (has_key schema row && is_next last (key_of schema row)) && keys_rise schema
    (Some (key_of schema row)) rows

and_true : (s t : Bool) → (s && t) ≡ true → (s ≡ true) × (t ≡ true)
and_true true t h = (refl, h)
and_true false true h = (h, refl)
and_true false false h = (h, h)

true_and : (s t : Bool) → s ≡ true → t ≡ true → (s && t) ≡ true
true_and s t p q = ap (λ s. s && t) p ∙ q

no : false ≡ true → ⊥
no h = (cc)

lt_less : (r : Ordering) → is_lt r ≡ true → r ≡ Less
lt_less Less h = refl
lt_less Equal h = absurd (no h)
lt_less Greater h = absurd (no h)

-- all rows are above a key
abbrev pub Above : KeySchema → Option (Val × Option Val) → List Row → Type 0
Above schema None rows = Unit {0}
Above schema (Some last) rows = AllByRecursion (λ row. key_order last (key_of schema row) ≡ Less) rows

further : (schema : KeySchema) (last key : Val × Option Val) (rows : List Row) → key_order last key ≡ Less →
    AllByRecursion (λ row. key_order key (key_of schema row) ≡ Less) rows →
    AllByRecursion (λ row. key_order last (key_of schema row) ≡ Less) rows
further schema last key [] lt h = tt
further schema last key (row ∷ rows) lt h = (
  key_order-total.trans last key (key_of schema row) lt h.0,
  further schema last key rows lt h.1,
)

above_more : (schema : KeySchema) (last : Option (Val × Option Val)) (row : Row) (rows : List Row) →
    is_next last (key_of schema row) ≡ true → Above schema (Some (key_of schema row)) rows →
    Above schema last (row ∷ rows)
above_more schema None row rows next above = tt
above_more schema (Some last) row rows next above =
    let lt : key_order last (key_of schema row) ≡ Less = lt_less (key_order last (key_of schema row)) next in
    (lt, further schema last (key_of schema row) rows lt above)

above_none : (schema : KeySchema) (last : Option (Val × Option Val)) → Above schema last []
above_none schema None = tt
above_none schema (Some last) = tt

rising : (schema : KeySchema) (last : Option (Val × Option Val)) (rows : List Row) →
    keys_rise schema last rows ≡ true → Above schema last rows × IsTable schema rows
unfolding IsStrictlySortedBy
rising schema last [] h = (
  above_none schema last,
  record {
    keys = All-nil (λ row. has_key schema row ≡ true);
    order =
        tt;
  },
)
rising schema last (row ∷ rows) h =
    let both = and_true (has_key schema row && is_next last (key_of schema row))
    (keys_rise schema (Some (key_of schema row)) rows) h in
    let front = and_true (has_key schema row) (is_next last (key_of schema row)) both.0 in
    let rest = rising schema (Some (key_of schema row)) rows both.1 in (
      above_more schema last row rows front.1 rest.0,
      record {
        keys = All-cons (λ row. has_key schema row ≡ true) row rows front.0 rest.1.keys;
        order =
            (rest.0, rest.1.order);
      },
    )

next_true : (schema : KeySchema) (last : Option (Val × Option Val)) (row : Row) (rows : List Row) →
    Above schema last (row ∷ rows) → is_next last (key_of schema row) ≡ true
next_true schema None row rows h = refl
next_true schema (Some last) row rows h = ap is_lt h.0

risen_rows : (schema : KeySchema) (last : Option (Val × Option Val)) (rows : List Row) → Above schema last rows →
    IsTable schema rows → keys_rise schema last rows ≡ true
unfolding IsStrictlySortedBy
risen_rows schema last [] above table = refl
risen_rows schema last (row ∷ rows) above table =
    true_and (has_key schema row && is_next last (key_of schema row)) (keys_rise schema (Some (key_of schema row)) rows)
    (true_and (has_key schema row) (is_next last (key_of schema row)) (table.keys 0 row (omega arith))
    (next_true schema last row rows above))
    (risen_rows schema (Some (key_of schema row)) rows table.order.0 (record {
      keys =
          λ k d lt. table.keys (suc k) d (omega arith);
      order = table.order.1;
    }))

-- the test tells the rows of a table
pub table_rises : (schema : KeySchema) (rows : List Row) → IsTable schema rows → keys_rise schema None rows ≡ true
table_rises schema rows table = risen_rows schema None rows tt table

pub rising_table : (schema : KeySchema) (rows : List Row) → keys_rise schema None rows ≡ true → IsTable schema rows
rising_table schema rows h = (rising schema None rows h).1

-- ---- the rows from a place on

pub drop_at : (rows : List Row) (i : ℕ) (row : Row) → i < length rows → row ≡ get_or rows i row →
    drop i rows ≡ row ∷ drop (i + 1) rows
drop_at rows i row lt is = drop_more rows i row lt ∙ ap (λ x. x ∷ drop (i + 1) rows) (sym is)

pub rises_not : (schema : KeySchema) (last : Option (Val × Option Val)) (rows : List Row) (i : ℕ) (row : Row)
    (on : Bool) → i < length rows → row ≡ get_or rows i row →
    on ≡ (has_key schema row && is_next last (key_of schema row)) → on ≡ false
    → keys_rise schema last (drop i rows) ≡ keys_rise schema None rows → IsTrue false ↔ IsTable schema rows
rises_not schema last rows i row on lt at is off whole =
    let rest : Bool = keys_rise schema (Some (key_of schema row)) (drop (i + 1) rows) in
    let stops : keys_rise schema last (drop i rows) ≡ false = ap (keys_rise schema last) (drop_at rows i row lt at) ∙
    ap (λ t. t && rest) (sym is ∙ off) in
    (λ e. absurd (no e), λ table. sym stops ∙ whole ∙ table_rises schema rows table)

pub rises_to_the_end : (schema : KeySchema) (last : Option (Val × Option Val)) (rows : List Row) (i : ℕ) →
    length rows ≤ i → keys_rise schema last (drop i rows) ≡ keys_rise schema None rows →
    IsTrue true ↔ IsTable schema rows
rises_to_the_end schema last rows i end whole =
    let all : drop i rows ≡ [] = drop_all i rows end in
    (λ e. rising_table schema rows (sym whole ∙ ap (keys_rise schema last) all), λ table. refl)
