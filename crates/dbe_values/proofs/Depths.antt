-- The JSON value that spells an item nests to few levels, so its text reads back.
use Rattle.std.proofs.Common.{◌≡◌, ◌≤◌, ◌∙◌, ℕ, zero, suc, ◌+◌, ◌*◌, max, List, [], ◌∷◌, Ordering, Less, Equal}
use Rattle.std.proofs.Common.{Greater, Some, Ok, nat_cmp, option_map, map, ap, arith}
use Rattle.std.specs.Ordering.{match_ordering}
use Rattle.std.specs.Cmp.Lexicographic.{slice_cmp}
use Rattle.std.specs.List.{All}
use Rattle.std.specs.Str.{IsUtf8}
use Rattle.std.proofs.lemmas.Str.{is_utf8-from_IsUtf8}
use Rattle.std.proofs.lemmas.List.Elements.{All-head, All-tail}
use Rattle.serde_json.specs.Data.{Data, Members, no_members, member, put, depth, items_depth, members_depth}
use Rattle.serde_json.specs.Read.{read, max_depth}
use Rattle.dbe_values.specs.Val as v
use Rattle.dbe_values.specs.Val.{Val, Vals, Entries}
use Rattle.dbe_values.specs.View.{view, entries_of, entry_view}
use Rattle.dbe_values.specs.declared.value.AttrValue.{AttrValue}
use Rattle.dbe_values.specs.Writing.{strings, base64_texts, value_data, vals_data, with_entries, with_members}
use Rattle.dbe_values.specs.Writing.{item_data}
use Rattle.dbe_values.specs.Lawful.{IsLawful, AreLawful, AreLawfulEntries, IsLawfulAttribute, IsLawfulItem}
use Rattle.dbe_values.specs.Json.{json_of}
use Rattle.dbe_values.specs.Items.{item_in}
use Rattle.dbe_values.proofs.ReadAgain.{item_again}

both : (a b n : ℕ) → a ≤ n → b ≤ n → max a b ≤ n
both a b n h k = omega arith

first : (a b n : ℕ) → max a b ≤ n → a ≤ n
first a b n h = omega arith

second : (a b n : ℕ) → max a b ≤ n → b ≤ n
second a b n h = omega arith

none : (n : ℕ) → 0 ≤ n
none n = omega arith

by_order : (n : ℕ) (o : Ordering) (a b c : Members) → members_depth a ≤ n → members_depth b ≤ n →
    members_depth c ≤ n → members_depth (match_ordering o a b c) ≤ n
by_order n Less a b c h k l = h
by_order n Equal a b c h k l = k
by_order n Greater a b c h k l = l

put_depth : (n : ℕ) (k : List ℕ) (d : Data) (ms : Members) → depth d ≤ n → members_depth ms ≤ n →
    members_depth (put k d ms) ≤ n
put_depth n k d no_members h g = both (depth d) 0 n h (none n)
put_depth n k d (member l e ms) h g =
    let here = first (depth e) (members_depth ms) n g in
    let others = second (depth e) (members_depth ms) n g in
    by_order n (slice_cmp nat_cmp k l) (member k d (member l e ms)) (member l d ms) (member l e (put k d ms))
    (both (depth d) (members_depth (member l e ms)) n h g) (both (depth d) (members_depth ms) n h others)
    (both (depth e) (members_depth (put k d ms)) n here (put_depth n k d ms h others))

strings_depth : (n : ℕ) (xs : List (List ℕ)) → items_depth (strings xs) ≤ n
strings_depth n [] = none n
strings_depth n (x ∷ xs) = both 0 (items_depth (strings xs)) n (none n) (strings_depth n xs)

base64_depth : (n : ℕ) (xs : List (List ℕ)) → items_depth (base64_texts xs) ≤ n
base64_depth n [] = none n
base64_depth n (x ∷ xs) = both 0 (items_depth (base64_texts xs)) n (none n) (base64_depth n xs)

-- an array or an object in a tagged object
in_tag : (left inner : ℕ) → inner ≤ 2 * left → suc (max (suc inner) 0) ≤ 2 * left + 2
in_tag left inner h = omega arith

level_more : (left inner : ℕ) → inner ≤ 2 * left + 2 → suc (max (suc inner) 0) ≤ 2 * suc left + 2
level_more left inner h = omega arith

alone : (left : ℕ) → suc (max 0 0) ≤ 2 * left + 2
alone left = omega arith

mutual
  value_depth : (left : ℕ) (x : Val) → IsLawful left x → depth (value_data x) ≤ 2 * left + 2
  value_depth left (v.text x) h = alone left
  value_depth left (v.number x) h = alone left
  value_depth left (v.binary x) h = alone left
  value_depth left (v.boolean x) h = alone left
  value_depth left v.nothing h = alone left
  value_depth left (v.texts xs) h = in_tag left (items_depth (strings xs)) (strings_depth (2 * left) xs)
  value_depth left (v.numbers xs) h = in_tag left (items_depth (strings xs)) (strings_depth (2 * left) xs)
  value_depth left (v.binaries xs) h = in_tag left (items_depth (base64_texts xs)) (base64_depth (2 * left) xs)
  value_depth zero (v.list xs) h = absurd h
  value_depth (suc left) (v.list xs) h = level_more left (items_depth (vals_data xs)) (vals_depth left xs h)
  value_depth zero (v.map es) h = absurd h
  value_depth (suc left) (v.map es) h = level_more left (members_depth (with_entries no_members es))
      (entries_depth left no_members es h.1 (none (2 * left + 2)))

  vals_depth : (left : ℕ) (xs : Vals) → AreLawful left xs → items_depth (vals_data xs) ≤ 2 * left + 2
  vals_depth left v.no_vals h = none (2 * left + 2)
  vals_depth left (v.val x xs) h = both (depth (value_data x)) (items_depth (vals_data xs)) (2 * left + 2)
      (value_depth left x h.0) (vals_depth left xs h.1)

  entries_depth : (left : ℕ) (ms : Members) (es : Entries) → AreLawfulEntries left es →
      members_depth ms ≤ 2 * left + 2 → members_depth (with_entries ms es) ≤ 2 * left + 2
  entries_depth left ms v.no_entries h g = g
  entries_depth left ms (v.entry name x es) h g = entries_depth left (put name (value_data x) ms) es h.2
      (put_depth (2 * left + 2) name (value_data x) ms (value_depth left x h.1) g)

members_fit : (ms : Members) (attributes : List (List ℕ × AttrValue)) → All IsLawfulAttribute attributes →
    members_depth ms ≤ 66 → members_depth (with_members ms attributes) ≤ 66
members_fit ms [] each g = g
members_fit ms (a ∷ others) each g =
    members_fit (put a.0 (value_data (view a.1)) ms) others (All-tail IsLawfulAttribute a others each)
    (put_depth 66 a.0 (value_data (view a.1)) ms (value_depth 32 (view a.1) (All-head IsLawfulAttribute a others
    each).value) g)

item_fits : (inner : ℕ) → inner ≤ 66 → suc inner ≤ max_depth
item_fits inner h = omega arith

item_depth : (attributes : List (List ℕ × AttrValue)) → IsLawfulItem attributes →
    depth (item_data attributes) ≤ max_depth
item_depth attributes h = item_fits (members_depth (with_members no_members attributes))
    (members_fit no_members attributes h.each (none 66))

-- what is written for an item is JSON, and that JSON spells the item
pub text_again : (text : List ℕ) (d : Data) (attributes : List (List ℕ × AttrValue)) → IsLawfulItem attributes →
    d ≡ item_data attributes → IsUtf8 text → (depth d ≤ max_depth → read text ≡ Some d) →
    json_of text ≡ Some (item_data attributes)
text_again text d attributes lawful is utf8 back =
    let again : read text ≡ Some d = back (rw is (item_depth attributes lawful)) in
    rw (is_utf8-from_IsUtf8 text utf8) (again ∙ ap Some is)

pub item_text_again : (text : List ℕ) (d : Data) (attributes : List (List ℕ × AttrValue)) → IsLawfulItem attributes →
    d ≡ item_data attributes → IsUtf8 text → (depth d ≤ max_depth → read text ≡ Some d) →
    option_map item_in (json_of text) ≡ Some (Ok (entries_of (map entry_view attributes)))
item_text_again text d attributes lawful is utf8 back =
    ap (option_map item_in) (text_again text d attributes lawful is utf8 back) ∙ ap Some (item_again attributes lawful)
