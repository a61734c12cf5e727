-- What a value is (Amazon DynamoDB Developer Guide, "Supported data types and naming rules").
use Rattle.std.specs.Prelude.{ℕ, ◌+◌, max, List, [], ◌∷◌, Bool, true, false, ◌&&◌}
use Rattle.std.specs.Str.{bytes_eq}
use Rattle.std.specs.Ordering.{nat_cmp, int_eq}
use Rattle.std.specs.declared.cmp.Ordering.{Ordering}
use Rattle.std.specs.declared.option.Option.{Option}
use Rattle.std.specs.declared.option.Option.TheVariants.{Some, None}
use Rattle.std.specs.Cmp.Lexicographic.{slice_cmp}
use Rattle.dbe_num.specs.Decimal.{Decimal, units, number_order}

-- The ten types. The elements of a set stand in order of their bytes, a number's being its normal text.
mutual
  pub data Val : Type 0 where
    text : List ℕ → Val
    number : Decimal → Val
    binary : List ℕ → Val
    boolean : Bool → Val
    nothing : Val
    texts : List (List ℕ) → Val
    numbers : List (List ℕ) → Val
    binaries : List (List ℕ) → Val
    list : Vals → Val
    map : Entries → Val

  pub data Vals : Type 0 where
    no_vals : Vals
    val : Val → Vals → Vals

  pub data Entries : Type 0 where
    no_entries : Entries
    entry : List ℕ → Val → Entries → Entries

-- how deep lists and maps nest
abbrev mutual
  pub depth_of : Val → ℕ
  depth_of (text t) = 0
  depth_of (number n) = 0
  depth_of (binary b) = 0
  depth_of (boolean b) = 0
  depth_of nothing = 0
  depth_of (texts ts) = 0
  depth_of (numbers ns) = 0
  depth_of (binaries bs) = 0
  depth_of (list vs) = vals_depth vs + 1
  depth_of (map es) = entries_depth es + 1

  pub vals_depth : Vals → ℕ
  vals_depth no_vals = 0
  vals_depth (val v vs) = max (depth_of v) (vals_depth vs)

  pub entries_depth : Entries → ℕ
  entries_depth no_entries = 0
  entries_depth (entry name v es) = max (depth_of v) (entries_depth es)

-- the same elements
abbrev pub same_elements : List (List ℕ) → List (List ℕ) → Bool
same_elements [] [] = true
same_elements [] (y ∷ ys) = false
same_elements (x ∷ xs) [] = false
same_elements (x ∷ xs) (y ∷ ys) = bytes_eq x y && same_elements xs ys

-- Equality is by type and value: numbers by value, sets as sets, lists in order, maps by names.
abbrev mutual
  pub same : Val → Val → Bool
  same (text x) (text y) = bytes_eq x y
  same (number x) (number y) = int_eq (units x) (units y)
  same (binary x) (binary y) = bytes_eq x y
  same (boolean true) (boolean y) = y
  same (boolean false) (boolean true) = false
  same (boolean false) (boolean false) = true
  same nothing nothing = true
  same (texts x) (texts y) = same_elements x y
  same (numbers x) (numbers y) = same_elements x y
  same (binaries x) (binaries y) = same_elements x y
  same (list x) (list y) = same_vals x y
  same (map x) (map y) = same_entries x y
  same _ _ = false

  pub same_vals : Vals → Vals → Bool
  same_vals no_vals no_vals = true
  same_vals no_vals (val w ws) = false
  same_vals (val v vs) no_vals = false
  same_vals (val v vs) (val w ws) = same v w && same_vals vs ws

  pub same_entries : Entries → Entries → Bool
  same_entries no_entries no_entries = true
  same_entries no_entries (entry n w ws) = false
  same_entries (entry m v vs) no_entries = false
  same_entries (entry m v vs) (entry n w ws) = (bytes_eq m n && same v w) && same_entries vs ws

-- Order is defined for two numbers, two texts and two binaries alone.
abbrev pub order_of : Val → Val → Option Ordering
order_of (text x) (text y) = Some (slice_cmp nat_cmp x y)
order_of (number x) (number y) = Some (number_order x y)
order_of (binary x) (binary y) = Some (slice_cmp nat_cmp x y)
order_of _ _ = None
