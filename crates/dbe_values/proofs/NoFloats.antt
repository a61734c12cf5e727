-- No value is spelled with a float, so its text is exact.
use Rattle.std.proofs.Common.{◌≡◌, ℕ, Bool, true, false, ◌||◌, List, [], ◌∷◌, Ordering, Less, Equal, Greater, nat_cmp}
use Rattle.std.proofs.Common.{refl}
use Rattle.std.specs.Ordering.{match_ordering}
use Rattle.std.specs.Cmp.Lexicographic.{slice_cmp}
use Rattle.serde_json.specs.Data.{Data, Members, no_members, member, put}
use Rattle.serde_json.specs.Written.{has_float, items_have_float, members_have_float}
use Rattle.dbe_values.specs.Val as v
use Rattle.dbe_values.specs.Val.{Val, Vals, Entries}
use Rattle.dbe_values.specs.View.{view}
use Rattle.dbe_values.specs.declared.value.AttrValue.{AttrValue}
use Rattle.dbe_values.specs.Writing.{strings, base64_texts, value_data, vals_data, with_entries, with_members}
use Rattle.dbe_values.specs.Writing.{item_data}

strings_none : (xs : List (List ℕ)) → items_have_float (strings xs) ≡ false
strings_none [] = refl
strings_none (x ∷ xs) = strings_none xs

base64_none : (xs : List (List ℕ)) → items_have_float (base64_texts xs) ≡ false
base64_none [] = refl
base64_none (x ∷ xs) = base64_none xs

by_order : (o : Ordering) (a b c : Members) → members_have_float a ≡ false → members_have_float b ≡ false →
    members_have_float c ≡ false → members_have_float (match_ordering o a b c) ≡ false
by_order Less a b c h k l = h
by_order Equal a b c h k l = k
by_order Greater a b c h k l = l

parts : (a b : Bool) → a || b ≡ false → (a ≡ false) × (b ≡ false)
parts true b h = absurd (cc)
parts false b h = (refl, h)

neither : (a b : Bool) → a ≡ false → b ≡ false → a || b ≡ false
neither a b h k = rw (h, k)

put_none : (k : List ℕ) (d : Data) (ms : Members) → has_float d ≡ false → members_have_float ms ≡ false →
    members_have_float (put k d ms) ≡ false
put_none k d no_members h g = neither (has_float d) false h refl
put_none k d (member l e ms) h g =
    let both = parts (has_float e) (members_have_float ms) g in
    by_order (slice_cmp nat_cmp k l) (member k d (member l e ms)) (member l d ms) (member l e (put k d ms))
    (neither (has_float d) (members_have_float (member l e ms)) h g)
    (neither (has_float d) (members_have_float ms) h both.1)
    (neither (has_float e) (members_have_float (put k d ms)) both.0 (put_none k d ms h both.1))

alone : (a : Bool) → a ≡ false → a || false ≡ false
alone a h = rw h

mutual
  value_none : (x : Val) → has_float (value_data x) ≡ false
  value_none (v.text x) = refl
  value_none (v.number x) = refl
  value_none (v.binary x) = refl
  value_none (v.boolean x) = refl
  value_none v.nothing = refl
  value_none (v.texts xs) = alone (items_have_float (strings xs)) (strings_none xs)
  value_none (v.numbers xs) = alone (items_have_float (strings xs)) (strings_none xs)
  value_none (v.binaries xs) = alone (items_have_float (base64_texts xs)) (base64_none xs)
  value_none (v.list vs) = alone (items_have_float (vals_data vs)) (vals_none vs)
  value_none (v.map es) = alone (members_have_float (with_entries no_members es)) (entries_none no_members es refl)

  vals_none : (vs : Vals) → items_have_float (vals_data vs) ≡ false
  vals_none v.no_vals = refl
  vals_none (v.val x xs) = neither (has_float (value_data x)) (items_have_float (vals_data xs)) (value_none x)
      (vals_none xs)

  entries_none : (ms : Members) (es : Entries) → members_have_float ms ≡ false →
      members_have_float (with_entries ms es) ≡ false
  entries_none ms v.no_entries h = h
  entries_none ms (v.entry name x es) h = entries_none (put name (value_data x) ms) es (put_none name (value_data x)
      ms (value_none x) h)

members_none : (ms : Members) (attributes : List (List ℕ × AttrValue)) → members_have_float ms ≡ false →
    members_have_float (with_members ms attributes) ≡ false
members_none ms [] h = h
members_none ms (a ∷ others) h = members_none (put a.0 (value_data (view a.1)) ms) others
    (put_none a.0 (value_data (view a.1)) ms (value_none (view a.1)) h)

pub item_has_no_float : (d : Data) (attributes : List (List ℕ × AttrValue)) → d ≡ item_data attributes →
    has_float d ≡ false
item_has_no_float d attributes is = rw is (members_none no_members attributes refl)
