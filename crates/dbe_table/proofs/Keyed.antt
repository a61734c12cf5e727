-- Rows under their keys.
use Rattle.std.proofs.Common.{◌≡◌, ◌∙◌, Bool, true, false, List, [], ◌∷◌, Option, Some, None, Result, Ok, Err, Vec}
use Rattle.std.proofs.Common.{refl, sym, ap, Ordering, Less, Equal, Greater, is_eq, is_ok, cond, if◌then◌else◌}
use Rattle.std.specs.List.{All}
use Rattle.std.specs.declared.alloc.Global.{Global}
use Rattle.std.specs.Borrow.{Bor}
use Rattle.std.specs.Result.{IfOk}
use Rattle.std.specs.Option.{IfSome, option_map}
use Rattle.std.specs.Ordering.{match_ordering}
use Rattle.std.specs.BTreeMap.{insert_entry, is_at}
use Rattle.std.specs.Map.{values_of, lookup}
use Rattle.std.proofs.lemmas.List.Elements.{All-nil, All-cons}
use Rattle.dbe_values.specs.Val.{Val}
use Rattle.dbe_values.specs.declared.key.KeySchema.{KeySchema}
use Rattle.dbe_values.specs.declared.key.KeyValue.{KeyValue}
use Rattle.dbe_values.specs.Keys.{has_key, is_lawful_key, key_of, key_or_none, key_order, row_key, row_order}
use Rattle.dbe_values.specs.KeyValues.{key_view, keys_cmp}
use Rattle.dbe_cond.specs.declared.wanted.Wanted.{Wanted}
use Rattle.dbe_cond.specs.declared.wanted.Wanted.TheVariants.{Every}
use Rattle.dbe_cond.specs.Wants.{wants}
use Rattle.dbe_table.specs.Rows.{Row, put_row, row_at, wanted_rows}
use Rattle.dbe_table.specs.InMemory.{AreKeyed, IsNormalKey, RowsByKey}
use Rattle.dbe_table.proofs.SameKeys.{OneNumber, same_key}

-- the key of each row is lawful
abbrev pub LawfulKeys : Type 0
LawfulKeys = (schema : KeySchema) (row : Row) (key : Val × Option Val) → row_key schema row ≡ Ok key →
    is_lawful_key schema key ≡ true

-- rows with the schema of their keys
abbrev pub of_schema : KeySchema → List Row → RowsByKey
of_schema schema rows = record { schema = schema; rows = rows }

-- the order of a row's keys is that of rows
cmp_is : (schema : KeySchema) (key other : KeyValue) (row r : Row) → row_key schema row ≡ Ok (key_view key) →
    row_key schema r ≡ Ok (key_view other) → row_order schema row r ≡ keys_cmp key other
cmp_is schema key other row r is r_is = ap (λ k. key_order (key_or_none k) (key_of schema r)) is ∙
    ap (λ k. key_order (key_view key) (key_or_none k)) r_is

put_by : (o : Ordering) (a b c : List (KeyValue × Row)) → values_of (match_ordering o a b c) ≡ match_ordering o
    (values_of a) (values_of b) (values_of c)
put_by Less a b c = refl
put_by Equal a b c = refl
put_by Greater a b c = refl

-- a row under its key goes to its place
pub values-insert : (schema : KeySchema) (es : List (KeyValue × Row)) (key : KeyValue) (row : Row) →
    AreKeyed schema es → row_key schema row ≡ Ok (key_view key)
    → values_of (insert_entry keys_cmp es key row) ≡ put_row schema row (values_of es)
values-insert schema [] key row keyed is = refl
values-insert schema (e ∷ es) key row keyed is =
    put_by (keys_cmp key e.0) ((key, row) ∷ e ∷ es) ((e.0, row) ∷ es) (e ∷ insert_entry keys_cmp es key row)
    ∙ ap (λ o. match_ordering o (row ∷ e.1 ∷ values_of es) (row ∷ values_of es)
    (e.1 ∷ values_of (insert_entry keys_cmp es key row))) (sym (cmp_is schema key e.0 row e.1 is keyed.0.0))
    ∙ ap (λ others. match_ordering (row_order schema row e.1) (row ∷ e.1 ∷ values_of es) (row ∷ values_of es)
    (e.1 ∷ others)) (values-insert schema es key row keyed.1 is)

keyed_by : OneNumber → LawfulKeys → (schema : KeySchema) (o : Ordering) (e : KeyValue ×
    Row) (es put : List (KeyValue × Row)) (key : KeyValue) (row : Row) → keys_cmp key e.0 ≡ o
    → AreKeyed schema (e ∷ es) → AreKeyed schema put → row_key schema row ≡ Ok (key_view key) →
    IsNormalKey (key_view key) →
    AreKeyed schema (match_ordering o ((key, row) ∷ e ∷ es) ((e.0, row) ∷ es) (e ∷ put))
keyed_by one lawful schema Less e es put key row cmp keyed puts is normal = ((is, normal), keyed)
keyed_by one lawful schema Equal e es put key row cmp keyed puts is normal =
    let same : key_view key ≡ key_view e.0 = same_key one schema (key_view key) (key_view e.0)
    (lawful schema row (key_view key) is) (lawful schema e.1 (key_view e.0) keyed.0.0) normal keyed.0.1 cmp in
    ((is ∙ ap Ok same, keyed.0.1), keyed.1)
keyed_by one lawful schema Greater e es put key row cmp keyed puts is normal = (keyed.0, puts)

pub keyed-insert : OneNumber → LawfulKeys → (schema : KeySchema) (es : List (KeyValue × Row)) (key : KeyValue)
    (row : Row) → AreKeyed schema es → row_key schema row ≡ Ok (key_view key) → IsNormalKey (key_view key)
    → AreKeyed schema (insert_entry keys_cmp es key row)
keyed-insert one lawful schema [] key row keyed is normal = ((is, normal), tt)
keyed-insert one lawful schema (e ∷ es) key row keyed is normal =
    keyed_by one lawful schema (keys_cmp key e.0) e es (insert_entry keys_cmp es key row) key row refl keyed
    (keyed-insert one lawful schema es key row keyed.1 is normal) is normal

-- a look-up finds the row of the key
cond_if : {A : Type 0} (t : Bool) (a b : A) → cond t a b ≡ (if t then a else b)
cond_if true a b = refl
cond_if false a b = refl

pub lookup-row_at : (schema : KeySchema) (es : List (KeyValue × Row)) (key : KeyValue) → AreKeyed schema es →
    lookup (is_at (keys_cmp key)) es ≡ row_at schema (key_view key) (values_of es)
lookup-row_at schema [] key keyed = refl
lookup-row_at schema (e ∷ es) key keyed =
    cond_if (is_eq (keys_cmp key e.0)) (Some e.1) (lookup (is_at (keys_cmp key)) es)
    ∙ ap (λ k. if is_eq (key_order (key_view key) k) then Some e.1 else lookup (is_at (keys_cmp key)) es)
    (sym (ap key_or_none keyed.0.0))
    ∙ ap (λ rest. if is_eq (key_order (key_view key) (key_of schema e.1)) then Some e.1 else rest)
    (lookup-row_at schema es key keyed.1)

-- and that row has this very key
eq_equal : (o : Ordering) → is_eq o ≡ true → o ≡ Equal
eq_equal Less h = (cc)
eq_equal Equal h = refl
eq_equal Greater h = (cc)

found_by : OneNumber → LawfulKeys → (schema : KeySchema) (t : Bool) (e : KeyValue × Row) (rest : Option Row)
    (key : KeyValue) → is_eq (keys_cmp key e.0) ≡ t → AreKeyed schema (e ∷ []) →
    is_lawful_key schema (key_view key) ≡ true → IsNormalKey (key_view key)
    → IfSome rest (λ row. row_key schema row ≡ Ok (key_view key)) →
    IfSome (cond t (Some e.1) rest) (λ row. row_key schema row ≡ Ok (key_view key))
found_by one lawful schema true e rest key at keyed fits normal later =
    let same : key_view key ≡ key_view e.0 = same_key one schema (key_view key) (key_view e.0) fits
    (lawful schema e.1 (key_view e.0) keyed.0.0) normal keyed.0.1 (eq_equal (keys_cmp key e.0) at) in
    keyed.0.0 ∙ ap Ok (sym same)
found_by one lawful schema false e rest key at keyed fits normal later = later

pub lookup-key : OneNumber → LawfulKeys → (schema : KeySchema) (es : List (KeyValue × Row)) (key : KeyValue) →
    AreKeyed schema es → is_lawful_key schema (key_view key) ≡ true → IsNormalKey (key_view key)
    → IfSome (lookup (is_at (keys_cmp key)) es) (λ row. row_key schema row ≡ Ok (key_view key))
lookup-key one lawful schema [] key keyed fits normal = tt
lookup-key one lawful schema (e ∷ es) key keyed fits normal =
    found_by one lawful schema (is_eq (keys_cmp key e.0)) e (lookup (is_at (keys_cmp key)) es) key refl (
      keyed.0,
      tt,
    ) fits normal (lookup-key one lawful schema es key keyed.1 fits normal)

pub mapped : (P : Row → Type 0) (r : Option (Bor Row)) → IfSome (option_map (λ b. b.now) r) P → IfSome r (λ b. P b.now)
mapped P None h = tt
mapped P (Some b) h = h

-- rows that are wanted of those under their keys have keys
abbrev pub HaveKeys : KeySchema → List Row → Type 0
HaveKeys schema rows = All (λ row. has_key schema row ≡ true) rows

have_if : (schema : KeySchema) (t : Bool) (row : Row) (rows : List Row) → has_key schema row ≡ true →
    HaveKeys schema rows → HaveKeys schema (if t then row ∷ rows else rows)
have_if schema true row rows h later = All-cons (λ row. has_key schema row ≡ true) row rows h later
have_if schema false row rows h later = later

keyed_wanted : (schema : KeySchema) (wanted : Wanted) (es : List (KeyValue × Row)) → AreKeyed schema es →
    HaveKeys schema (wanted_rows wanted (values_of es))
keyed_wanted schema wanted [] keyed = All-nil (λ row. has_key schema row ≡ true)
keyed_wanted schema wanted (e ∷ es) keyed = have_if schema (wants wanted e.1) e.1 (wanted_rows wanted (values_of es))
    (ap is_ok keyed.0.0) (keyed_wanted schema wanted es keyed.1)

pub have_keys : {E : Type 0} (schema : KeySchema) (wanted : Wanted) (es : List (KeyValue × Row))
    (r : Result (Vec Row Global) E) → AreKeyed schema es →
    IfOk r (λ found. found.items ≡ wanted_rows wanted (values_of es))
    → IfOk r (λ found. HaveKeys schema found.items)
have_keys schema wanted es (Ok found) keyed is = rw is (keyed_wanted schema wanted es keyed)
have_keys schema wanted es (Err e) keyed is = tt

-- every row is wanted
pub wanted-every : (rows : List Row) → wanted_rows Every rows ≡ rows
wanted-every [] = refl
wanted-every (row ∷ rows) = ap (λ others. row ∷ others) (wanted-every rows)

pub weaker_ok : {T E : Type 0} (r : Result T E) (P Q : T → Type 0) → ((x : T) → P x → Q x) → IfOk r P → IfOk r Q
weaker_ok (Ok x) P Q f h = f x h
weaker_ok (Err e) P Q f h = tt
