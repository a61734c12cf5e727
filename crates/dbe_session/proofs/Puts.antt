-- A map of items with one item put.
use Rattle.std.proofs.Common.{◌≡◌, ◌⊎◌, [], ◌∷◌, inl, inr, refl, ap, ◌∙◌, filter, Ordering, Less, Equal, Greater, suc}
use Rattle.std.proofs.Common.{arith}
use Rattle.std.specs.List.{All, AllByRecursion}
use Rattle.std.specs.List.Sorted.{IsStrictlySortedBy}
use Rattle.std.specs.Ordering.{match_ordering, ordering_reverse, is_lt}
use Rattle.std.specs.Cmp.{IsTotalOrder, on_total}
use Rattle.std.proofs.lemmas.List.Elements.{All-nil, All-cons}
use Rattle.dbe_values.specs.declared.key.KeySchema.{KeySchema}
use Rattle.dbe_values.specs.Keys.{key_of, row_order}
use Rattle.dbe_values.specs.KeyValues.{key_order-total}
use Rattle.dbe_table.specs.Rows.{Row, put_row}
use Rattle.dbe_session.specs.Maps.{Items, put_item}

-- the order of rows is an order
row_total : (schema : KeySchema) → IsTotalOrder (row_order schema)
row_total schema = on_total (key_of schema) key_order-total

-- ---- the map with an item put

-- of items whose keys are above one, none is below another that is not above it, and all are above that other
module _ (schema : KeySchema) (item : Row) where
  above_all : (low : Row) (items : Items) → (o : Ordering) → row_order schema item low ≡ o → (o ≡ Less) ⊎
      (o ≡ Equal) → AllByRecursion (λ k. row_order schema low k ≡ Less) (items)
      → AllByRecursion (λ k. row_order schema item k ≡ Less) (items)
  above_all low [] o is le h = h
  above_all low (i ∷ is_) o is (inl less) h = (
    (row_total schema).trans item low i (is ∙ less) h.0,
    above_all low is_ o is (inl less) h.1,
  )
  above_all low (i ∷ is_) o is (inr same) h = (
    (row_total schema).congr item low i (is ∙ same) ∙ h.0,
    above_all low is_ o is (inr same) h.1,
  )

  below_none : (items : Items) → AllByRecursion (λ k. row_order schema item k ≡ Less) (items) →
      filter (λ other. is_lt (row_order schema other item)) items ≡ []
  below_none [] h = refl
  below_none (i ∷ items) h =
      let above : row_order schema i item ≡ Greater = (row_total schema).antisymm i item ∙ ap ordering_reverse h.0 in
      rw above (below_none items h.1)

  all_above : (items : Items) → AllByRecursion (λ k. row_order schema item k ≡ Less) (items) →
      filter (λ other. is_lt (row_order schema item other)) items ≡ items
  all_above [] h = refl
  all_above (i ∷ items) h = rw (h.0, all_above items h.1) refl

  put_at : (other : Row) (others : Items) (o : Ordering) → row_order schema item other ≡ o →
      AllByRecursion (λ k. row_order schema other k ≡ Less) (others)
      → put_row schema item others ≡ put_item schema item others →
      match_ordering o (item ∷ other ∷ others) (item ∷ others) (other ∷ put_row schema item others) ≡ put_item
      schema item (other ∷ others)
  put_at other others Less is above later =
      let back : row_order schema other item ≡ Greater = (row_total schema).antisymm other item ∙
      ap ordering_reverse is in
      let all = above_all other others Less is (inl refl) above in
      rw (back, is, below_none others all, all_above others all) refl
  put_at other others Equal is above later =
      let back : row_order schema other item ≡ Equal = (row_total schema).antisymm other item ∙
      ap ordering_reverse is in
      let all = above_all other others Equal is (inr refl) above in
      rw (back, is, below_none others all, all_above others all) refl
  put_at other others Greater is above later =
      let back : row_order schema other item ≡ Less = (row_total schema).antisymm other item ∙ ap ordering_reverse is in
      rw (back, is) (ap (λ items. other ∷ items) later)

  -- the row that the table puts is the item that the map puts
  pub put_row-put_item : (items : Items) → IsStrictlySortedBy (row_order schema) (items) →
      put_row schema item items ≡ put_item schema item items
  unfolding IsStrictlySortedBy
  put_row-put_item [] h = refl
  put_row-put_item (other ∷ others) h = put_at other others (row_order schema item other) refl h.0
      (put_row-put_item others h.1)

  -- a put keeps the order
  low_put : (low : Row) (other : Row) (others put : Items) (o : Ordering) → row_order schema low item ≡ Less →
      row_order schema low other ≡ Less → AllByRecursion (λ k. row_order schema low k ≡ Less) (others)
      → AllByRecursion (λ k. row_order schema low k ≡ Less) (put)
      → AllByRecursion (λ k. row_order schema low k ≡ Less) ((match_ordering o (item ∷ other ∷ others) (item ∷ others)
      (other ∷ put)))
  low_put low other others put Less lt next later puts = (lt, (next, later))
  low_put low other others put Equal lt next later puts = (lt, later)
  low_put low other others put Greater lt next later puts = (next, puts)

  low_puts : (low : Row) (items : Items) → row_order schema low item ≡ Less →
      AllByRecursion (λ k. row_order schema low k ≡ Less) (items)
      → AllByRecursion (λ k. row_order schema low k ≡ Less) ((put_row schema item items))
  low_puts low [] lt h = (lt, tt)
  low_puts low (other ∷ others) lt h = low_put low other others (put_row schema item others)
      (row_order schema item other) lt h.0 h.1 (low_puts low others lt h.1)

  order_put : (other : Row) (others put : Items) (o : Ordering) → row_order schema item other ≡ o
      → AllByRecursion (λ k. row_order schema other k ≡ Less) (others) → IsStrictlySortedBy (row_order schema) (others)
      → (row_order schema other item ≡ Less → AllByRecursion (λ k. row_order schema other k ≡ Less) (put)) →
      IsStrictlySortedBy (row_order schema) (put)
      → IsStrictlySortedBy (row_order schema) ((match_ordering o (item ∷ other ∷ others) (item ∷ others) (other ∷ put)))
  unfolding IsStrictlySortedBy
  order_put other others put Less is above order low puts = (
    (is, above_all other others Less is (inl refl) above),
    (above, order),
  )
  order_put other others put Equal is above order low puts = (above_all other others Equal is (inr refl) above, order)
  order_put other others put Greater is above order low puts =
      let back : row_order schema other item ≡ Less = (row_total schema).antisymm other item ∙ ap ordering_reverse is in
      (low back, puts)

  pub ordered_put : (items : Items) → IsStrictlySortedBy (row_order schema) (items) →
      IsStrictlySortedBy (row_order schema) ((put_row schema item items))
  unfolding IsStrictlySortedBy
  ordered_put [] h = (tt, tt)
  ordered_put (other ∷ others) h =
      order_put other others (put_row schema item others) (row_order schema item other) refl h.0 h.1
      (λ lt. low_puts other others lt h.0) (ordered_put others h.1)

  -- what holds of each item and of the put one holds of each of the map with it
  all_put_by : (P : Row → Type 0) (other : Row) (others put : Items) (o : Ordering) → P item → P other →
      All P others → All P put → All P (match_ordering o (item ∷ other ∷ others) (item ∷ others) (other ∷ put))
  all_put_by P other others put Less p q later puts =
      All-cons P item (other ∷ others) p (All-cons P other others q later)
  all_put_by P other others put Equal p q later puts = All-cons P item others p later
  all_put_by P other others put Greater p q later puts = All-cons P other put q puts

  all_head : (P : Row → Type 0) (other : Row) (others : Items) → All P (other ∷ others) → P other
  all_head P other others h = h 0 other (omega arith)

  all_tail : (P : Row → Type 0) (other : Row) (others : Items) → All P (other ∷ others) → All P others
  all_tail P other others h = λ k d lt. h (suc k) d (omega arith)

  pub all_put : (P : Row → Type 0) (items : Items) → P item → All P items → All P (put_row schema item items)
  all_put P [] p h = All-cons P item [] p (All-nil P)
  all_put P (other ∷ others) p h =
      all_put_by P other others (put_row schema item others) (row_order schema item other) p (all_head P other others
      h) (all_tail P other others h) (all_put P others p (all_tail P other others h))
