-- What a call that reads a key answers.
use Rattle.std.specs.Prelude.{◌≡◌, ℕ, List, Option, option_map, Result, Ok, Err}
use Rattle.std.specs.Borrow.{Bor}
use Rattle.std.specs.declared.cmp.Ordering.{Ordering}
use Rattle.std.specs.Ordering.{on}
use Rattle.std.specs.Cmp.{IsTotalOrder, nat_cmp_total, int_cmp_total, on_total, then_total}
use Rattle.std.specs.Cmp.Lexicographic.{lists_total, options_total}
use Rattle.dbe_values.specs.Val.{Val}
use Rattle.dbe_values.specs.Keys.{type_rank, key_bytes, key_units, value_order, key_order}
use Rattle.dbe_values.specs.View.{view}
use Rattle.dbe_values.specs.declared.value.AttrValue.{AttrValue}
use Rattle.dbe_values.specs.declared.key.KeyValue.{KeyValue}
use Rattle.dbe_values.specs.declared.key.KeyError.{KeyError}
use Rattle.dbe_values.specs.declared.key.KeyError.TheVariants.{Bad, Memory}

abbrev pub key_view : KeyValue → Val × Option Val
key_view k = (view k.partition, option_map view k.sort)

-- the key that was found, or the name at which there is none
abbrev pub key_found : Result (Bor AttrValue × Option (Bor AttrValue)) (Bor (List ℕ)) →
    Result (Val × Option Val) (List ℕ)
key_found (Ok k) = Ok (view k.0.now, option_map (λ value. view value.now) k.1)
key_found (Err name) = Err name.now

-- the key that a row has, or the name at which it has none, unless memory ran out
abbrev pub GivesKey : Result KeyValue KeyError → Result (Val × Option Val) (List ℕ) → Type 0
GivesKey (Ok k) read = read ≡ Ok (key_view k)
GivesKey (Err (Bad name)) read = read ≡ Err name
GivesKey (Err Memory) read = Unit {0}

-- the order of keys, for `Ord`
abbrev pub keys_cmp : KeyValue → KeyValue → Ordering
keys_cmp = on key_view key_order

-- the order of keys is an order
value_order-total : IsTotalOrder value_order
value_order-total =
    then_total (on_total type_rank nat_cmp_total) (then_total (on_total key_bytes (lists_total nat_cmp_total))
    (on_total key_units int_cmp_total))

pub key_order-total : IsTotalOrder key_order
key_order-total = then_total (on_total (λ k. k.0) value_order-total)
    (on_total (λ k. k.1) (options_total value_order-total))

pub keys_cmp-total : IsTotalOrder keys_cmp
keys_cmp-total = on_total key_view key_order-total
