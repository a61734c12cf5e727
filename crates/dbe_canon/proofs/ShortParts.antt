-- A count or a length that does not fit 8 bytes makes at least as many bytes.
use Rattle.std.proofs.Common.{◌≡◌, ℕ, ◌+◌, ◌^◌, ◌<◌, ◌≤◌, List, [], ◌∷◌, ◌++◌, length, arith, length-append}
use Rattle.std.specs.List.{AllByRecursion}
use Rattle.dbe_values.specs.Val as v
use Rattle.dbe_values.specs.Val.{Val, Vals, Entries}
use Rattle.dbe_canon.specs.Canon.{count_bytes, long_string, long_strings, type_id, canon_of, vals_bytes}
use Rattle.dbe_canon.specs.Canon.{entries_bytes, vals_count, entries_count, IsShort, IsShortSet, HasShortParts}
use Rattle.dbe_canon.specs.Canon.{HaveShortParts, EntriesHaveShortParts}
use Rattle.dbe_canon.proofs.Lengths.{string_length, id_length}

strings_count : (xs : List (List ℕ)) → length xs ≤ length (long_strings xs)
strings_count [] = omega arith
strings_count (x ∷ xs) = omega (
  arith,
  strings_count xs,
  length-append (long_string x) (long_strings xs),
  string_length x,
)

strings_short : (xs : List (List ℕ)) → length (long_strings xs) < 2 ^ 64 → AllByRecursion IsShort xs
strings_short [] h = tt
strings_short (x ∷ xs) h = (
  omega (arith, length-append (long_string x) (long_strings xs), string_length x),
  strings_short xs (omega (arith, length-append (long_string x) (long_strings xs))),
)

set_short : (xs : List (List ℕ)) → length (count_bytes (length xs) ++ long_strings xs) < 2 ^ 64 → IsShortSet xs
set_short xs h =
    let rest : length (long_strings xs) < 2 ^ 64 =
    omega (arith, length-append (count_bytes (length xs)) (long_strings xs)) in
    (omega (arith, strings_count xs), strings_short xs rest)

value_length : (x : Val) (others : List ℕ) → length (type_id x ++ (long_string (canon_of x) ++ others)) ≡ 10 + length
    (canon_of x) + length others
value_length x others =
    omega (
      arith,
      length-append (type_id x) (long_string (canon_of x) ++ others),
      length-append (long_string (canon_of x)) others,
      id_length x,
      string_length (canon_of x),
    )

entry_length : (name : List ℕ) (x : Val) (others : List ℕ) →
    length (long_string name ++ (type_id x ++ (long_string (canon_of x) ++ others))) ≡ 18 + length name + length
    (canon_of x) + length others
entry_length name x others =
    omega (
      arith,
      length-append (long_string name) (type_id x ++ (long_string (canon_of x) ++ others)),
      string_length name,
      value_length x others,
    )

vals_counted : (xs : Vals) → vals_count xs ≤ length (vals_bytes xs)
unfolding vals_bytes
vals_counted v.no_vals = omega arith
vals_counted (v.val x xs) = omega (arith, vals_counted xs, value_length x (vals_bytes xs))

entries_counted : (es : Entries) → entries_count es ≤ length (entries_bytes es)
unfolding entries_bytes
entries_counted v.no_entries = omega arith
entries_counted (v.entry name x es) = omega (arith, entries_counted es, entry_length name x (entries_bytes es))

mutual
  unfolding canon_of vals_bytes entries_bytes

  pub has_short_parts : (x : Val) → length (canon_of x) < 2 ^ 64 → HasShortParts x
  has_short_parts v.nothing h = tt
  has_short_parts (v.text y) h = tt
  has_short_parts (v.number y) h = tt
  has_short_parts (v.boolean y) h = tt
  has_short_parts (v.binary y) h = tt
  has_short_parts (v.texts ys) h = set_short ys h
  has_short_parts (v.numbers ys) h = set_short ys h
  has_short_parts (v.binaries ys) h = set_short ys h
  has_short_parts (v.list xs) h =
      let rest : length (vals_bytes xs) < 2 ^ 64 =
      omega (arith, length-append (count_bytes (vals_count xs)) (vals_bytes xs)) in
      (omega (arith, vals_counted xs), have_short_parts xs rest)
  has_short_parts (v.map es) h =
      let rest : length (entries_bytes es) < 2 ^ 64 =
      omega (arith, length-append (count_bytes (entries_count es)) (entries_bytes es)) in
      (omega (arith, entries_counted es), entries_have_short_parts es rest)

  have_short_parts : (xs : Vals) → length (vals_bytes xs) < 2 ^ 64 → HaveShortParts xs
  have_short_parts v.no_vals h = tt
  have_short_parts (v.val x xs) h =
      let parts = value_length x (vals_bytes xs) in
      (omega arith, has_short_parts x (omega arith), have_short_parts xs (omega arith))

  entries_have_short_parts : (es : Entries) → length (entries_bytes es) < 2 ^ 64 → EntriesHaveShortParts es
  entries_have_short_parts v.no_entries h = tt
  entries_have_short_parts (v.entry name x es) h =
      let parts = entry_length name x (entries_bytes es) in
      (omega arith, omega arith, has_short_parts x (omega arith), entries_have_short_parts es (omega arith))
