-- Canonical bytes read from front to back. The clauses `found` and `none` of `read` tie this to `Canon`.
use Rattle.std.specs.Prelude.{◌≡◌, ℕ, zero, suc, ◌==◌, ◌&&◌, Bool, true, false, List, [], ◌∷◌, length, take, drop}
use Rattle.std.specs.Prelude.{map, nat_lt, Option, Some, None, Result, Ok, Err, if◌then◌else◌}
use Rattle.std.specs.Int.{w64, from_be_bytes}
use Rattle.std.specs.Str.{bytes_eq, is_utf8}
use Rattle.std.specs.Ordering.{nat_cmp, is_lt}
use Rattle.std.specs.Cmp.Lexicographic.{slice_cmp}
use Rattle.dbe_num.specs.Decimal.{Decimal}
use Rattle.dbe_num.specs.NormalText.{normal_text}
use Rattle.dbe_num.specs.Reading.{number_of}
use Rattle.dbe_values.specs.View.{vals_of, entries_of}
use Rattle.dbe_values.specs.Val as v
use Rattle.dbe_values.specs.Val.{Val}
use Rattle.dbe_canon.specs.declared.kind.Kind.{Kind}
use Rattle.dbe_canon.specs.declared.kind.Kind.TheVariants as kind
use Rattle.dbe_canon.specs.declared.fault.CanonFault.{CanonFault}
use Rattle.dbe_canon.specs.declared.fault.CanonFault.TheVariants.{NotCanonical, Memory}

infixl 10 ◌>>=◌
abbrev pub ◌>>=◌ : {A B : Type 0} → Option A → (A → Option B) → Option B
(Some x) >>= f = f x
None >>= f = None

-- what a call answered, seen by view, is what reading gives, unless memory ran out
abbrev pub Fails : {B : Type 0} → CanonFault → Option B → Type 0
Fails Memory read = Unit {0}
Fails NotCanonical read = read ≡ None

abbrev pub Gives : {A B : Type 0} → (A → B) → Result A CanonFault → Option B → Type 0
Gives view (Ok x) read = read ≡ Some (view x)
Gives view (Err e) read = Fails e read

-- the type that an id names
abbrev pub kind_of : List ℕ → Option Kind
kind_of id =
    if bytes_eq id (0 ∷ 0 ∷ []) then Some kind.Null
    else if bytes_eq id (0 ∷ 1 ∷ []) then Some kind.S
    else if bytes_eq id (0 ∷ 2 ∷ []) then Some kind.N
    else if bytes_eq id (0 ∷ 4 ∷ []) then Some kind.Bool
    else if bytes_eq id (255 ∷ 255 ∷ []) then Some kind.B
    else if bytes_eq id (1 ∷ 1 ∷ []) then Some kind.Ss
    else if bytes_eq id (1 ∷ 2 ∷ []) then Some kind.Ns
    else if bytes_eq id (1 ∷ 255 ∷ []) then Some kind.Bs
    else if bytes_eq id (2 ∷ 0 ∷ []) then Some kind.M
    else if bytes_eq id (3 ∷ 0 ∷ []) then Some kind.L
    else None

-- so many bytes at the front, and those behind them
unfoldable pub bytes_at : ℕ → List ℕ → Option (List ℕ × List ℕ)
bytes_at n bytes = if nat_lt (length bytes) n then None else Some (take n bytes, drop n bytes)

-- a count at the front
unfoldable pub count_at : List ℕ → Option (ℕ × List ℕ)
count_at bytes = bytes_at 8 bytes >>= λ x. Some (from_be_bytes w64 x.0, x.1)

-- bytes behind their length
unfoldable pub string_at : List ℕ → Option (List ℕ × List ℕ)
string_at bytes = count_at bytes >>= λ n. bytes_at n.0 n.1

-- a number by its normal text
abbrev pub normal_of : {E : Type 0} → List ℕ → Result Decimal E → Option Decimal
normal_of text (Ok d) = if bytes_eq (normal_text d) text then Some d else None
normal_of text (Err e) = None

unfoldable pub number_in : List ℕ → Option Decimal
number_in text = if is_utf8 text then normal_of text (number_of text) else None

-- an element of a set of texts, of numbers and of binaries
unfoldable pub text_in : List ℕ → Option (List ℕ)
text_in bytes = if is_utf8 bytes then Some bytes else None

unfoldable pub number_text_in : List ℕ → Option (List ℕ)
number_text_in bytes = number_in bytes >>= λ d. Some bytes

abbrev pub binary_in : List ℕ → Option (List ℕ)
binary_in bytes = Some bytes

-- so many things of one form, one behind the other, and the bytes behind them
unfoldable pub many_at : {X : Type 0} → (List ℕ → Option (X × List ℕ)) → ℕ → List ℕ → Option (List X × List ℕ)
many_at one zero bytes = Some ([], bytes)
many_at one (suc n) bytes = one bytes >>= λ x. many_at one n x.1 >>= λ xs. Some (x.0 ∷ xs.0, xs.1)

-- an element of a set behind its length
unfoldable pub element_at : (List ℕ → Option (List ℕ)) → List ℕ → Option (List ℕ × List ℕ)
element_at element bytes = string_at bytes >>= λ s. element s.0 >>= λ x. Some (x, s.1)

-- each is below the one behind it
abbrev pub is_increasing : List (List ℕ) → Bool
is_increasing [] = true
is_increasing (x ∷ []) = true
is_increasing (x ∷ y ∷ ys) = is_lt (slice_cmp nat_cmp x y) && is_increasing (y ∷ ys)

-- nothing is left, and the elements are a set
abbrev pub whole_set : List (List ℕ) × List ℕ → Option (List (List ℕ))
whole_set xs = if length xs.1 == 0 && (nat_lt 0 (length xs.0) && is_increasing xs.0) then Some xs.0 else None

unfoldable pub set_in : (List ℕ → Option (List ℕ)) → List ℕ → Option (List (List ℕ))
set_in element bytes = count_at bytes >>= λ n. many_at (element_at element) n.0 n.1 >>= whole_set

abbrev pub null_in : List ℕ → Option Val
null_in bytes = if length bytes == 0 then Some v.nothing else None

abbrev pub boolean_in : List ℕ → Option Val
boolean_in bytes =
    if bytes_eq bytes (0 ∷ []) then Some (v.boolean false)
    else if bytes_eq bytes (1 ∷ []) then Some (v.boolean true)
    else None

-- how the bytes of a value of a type are read, where it is known how a list and a map are
abbrev pub kind_in : Option Kind → (List ℕ → Option Val) → (List ℕ → Option Val) → List ℕ → Option Val
kind_in None list map bytes = None
kind_in (Some kind.Null) list map bytes = null_in bytes
kind_in (Some kind.S) list map bytes = text_in bytes >>= λ x. Some (v.text x)
kind_in (Some kind.N) list map bytes = number_in bytes >>= λ x. Some (v.number x)
kind_in (Some kind.Bool) list map bytes = boolean_in bytes
kind_in (Some kind.B) list map bytes = Some (v.binary bytes)
kind_in (Some kind.Ss) list map bytes = set_in text_in bytes >>= λ xs. Some (v.texts xs)
kind_in (Some kind.Ns) list map bytes = set_in number_text_in bytes >>= λ xs. Some (v.numbers xs)
kind_in (Some kind.Bs) list map bytes = set_in binary_in bytes >>= λ xs. Some (v.binaries xs)
kind_in (Some kind.L) list map bytes = list bytes
kind_in (Some kind.M) list map bytes = map bytes

-- a value at the front: its id, its length and its bytes
unfoldable pub value_at : (List ℕ → List ℕ → Option Val) → List ℕ → Option (Val × List ℕ)
value_at value bytes = bytes_at 2 bytes >>= λ id. string_at id.1 >>= λ s. value id.0 s.0 >>= λ x. Some (x, s.1)

-- a name behind its length, and its value
unfoldable pub entry_at : (List ℕ → List ℕ → Option Val) → List ℕ → Option ((List ℕ × Val) × List ℕ)
entry_at value bytes = element_at text_in bytes >>= λ name. value_at value name.1 >>= λ x. Some ((name.0, x.0), x.1)

abbrev pub whole_list : List Val × List ℕ → Option Val
whole_list xs = if length xs.1 == 0 then Some (v.list (vals_of xs.0)) else None

abbrev pub whole_map : List (List ℕ × Val) × List ℕ → Option Val
whole_map es = if length es.1 == 0 && is_increasing (map (λ e. e.0) es.0) then Some (v.map (entries_of es.0)) else None

unfoldable pub list_of : (List ℕ → List ℕ → Option Val) → List ℕ → Option Val
list_of value bytes = count_at bytes >>= λ n. many_at (value_at value) n.0 n.1 >>= whole_list

unfoldable pub map_of : (List ℕ → List ℕ → Option Val) → List ℕ → Option Val
map_of value bytes = count_at bytes >>= λ n. many_at (entry_at value) n.0 n.1 >>= whole_map

-- the value of an id and bytes; left: how many levels of lists and maps may still nest
unfoldable pub value_in : ℕ → List ℕ → List ℕ → Option Val
value_in zero id bytes = kind_in (kind_of id) (λ _. None) (λ _. None) bytes
value_in (suc left) id bytes = kind_in (kind_of id) (list_of (λ i b. value_in left i b))
    (map_of (λ i b. value_in left i b)) bytes

-- a list and a map, where there is a level left for them
unfoldable pub list_in : ℕ → List ℕ → Option Val
list_in zero bytes = None
list_in (suc left) bytes = list_of (λ i b. value_in left i b) bytes

unfoldable pub map_in : ℕ → List ℕ → Option Val
map_in zero bytes = None
map_in (suc left) bytes = map_of (λ i b. value_in left i b) bytes
