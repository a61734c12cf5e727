-- The path of an attribute, this project's own: the table, one step into the item, and the name.
use Rattle.std.specs.Prelude.{ℕ, List, ◌∷◌, ◌++◌, length}
use Rattle.std.specs.Ordering.{nat_cmp, ordering_then}
use Rattle.std.specs.declared.cmp.Ordering.{Ordering}
use Rattle.std.specs.Cmp.Lexicographic.{slice_cmp}
use Rattle.dbe_canon.specs.Canon.{count_bytes, long_string}

-- the table's name, the number of steps, a `$`, and the attribute's name
abbrev pub path_of : List ℕ → List ℕ → List ℕ
path_of table name = long_string table ++ (count_bytes 1 ++ (36 ∷ long_string name))

-- the order of names: shorter ones first, and those of one length by their bytes
abbrev pub name_cmp : List ℕ → List ℕ → Ordering
name_cmp a b = ordering_then (nat_cmp (length a) (length b)) (slice_cmp nat_cmp a b)
