-- Members that are put into an object one after another, and items one behind another.
use Rattle.std.proofs.Common.{◌≡◌, ◌≤◌, ◌<◌, ◌+◌, ℕ, List, [], ◌∷◌, ◌++◌, Some, refl, ap, ◌∙◌, length, get_or, drop}
use Rattle.std.proofs.Common.{take, sym, String, Global, string_bytes, string_cmp, nat_cmp, Equal, set, add-one}
use Rattle.std.proofs.Common.{codes, Result, Ok, Err, IfOk, BTreeMap}
use Rattle.std.specs.Prelude.{map}
use Rattle.std.specs.List.{slice_get}
use Rattle.std.proofs.lemmas.Option.{slice_get_within, get_or_from_slice_get}
use Rattle.std.proofs.lemmas.List.{drop_more, drop_all, set_split}
use Rattle.std.specs.BTreeMap.{insert_entry}
use Rattle.serde_json.specs.Data.{Data, Items, no_items, item, Members, no_members, put, object}
use Rattle.serde_json.specs.View.{view as data_of, items_view, members_view}
use Rattle.serde_json.specs.declared.value.Value.{Value, Object}
use Rattle.serde_json.proofs.Views.{members_view-insert_entry, view-Object}
use Rattle.std.specs.Cmp.Lexicographic.{slice_cmp}
use Rattle.dbe_values.specs.Attributes.{put_at}
use Rattle.dbe_values.proofs.Views.{view-M}
use Rattle.dbe_values.specs.View.{view, entries_of, entry_view}
use Rattle.dbe_values.specs.declared.value.AttrValue.{AttrValue, M}
use Rattle.dbe_values.specs.Writing.{tagged, with_members, with_entries, value_data}

-- items behind others
abbrev pub items_onto : List Value → Items → Items
items_onto [] ds = ds
items_onto (x ∷ xs) ds = item (data_of x) (items_onto xs ds)

pub items_onto-push : (xs : List Value) (x : Value) (ds : Items) →
    items_onto (xs ++ x ∷ []) ds ≡ items_onto xs (item (data_of x) ds)
items_onto-push [] x ds = refl
items_onto-push (y ∷ xs) x ds = ap (item (data_of y)) (items_onto-push xs x ds)

pub items_onto-none : (xs : List Value) → items_onto xs no_items ≡ items_view xs
items_onto-none [] = refl
items_onto-none (x ∷ xs) = ap (item (data_of x)) (items_onto-none xs)

drop_at : (attributes : List (List ℕ × AttrValue)) (i : ℕ) (a : List ℕ × AttrValue) →
    slice_get attributes i ≡ Some a → drop i attributes ≡ a ∷ drop (i + 1) attributes
drop_at attributes i a is = drop_more attributes i a (slice_get_within attributes i a is) ∙
    ap (λ x. x ∷ drop (i + 1) attributes) (get_or_from_slice_get attributes i a a is)

with_members_step : (ms : Members) (attributes : List (List ℕ × AttrValue)) (i : ℕ) (a : List ℕ × AttrValue) →
    slice_get attributes i ≡ Some a
    → with_members ms (drop i attributes) ≡ with_members (put a.0 (value_data (view a.1)) ms) (drop (i + 1) attributes)
with_members_step ms attributes i a is = ap (with_members ms) (drop_at attributes i a is)

-- one attribute more
pub with_members_put : (es es' : List (String Global × Value)) (attributes : List (List ℕ × AttrValue)) (i : ℕ)
    (name : List ℕ) (v : AttrValue) (key : String Global) (value : Value) {all : Members}
    → slice_get attributes i ≡ Some (name, v) → string_bytes key ≡ name → data_of value ≡ value_data (view v) →
    es' ≡ insert_entry string_cmp es key value
    → with_members (members_view es) (drop i attributes) ≡ all →
    with_members (members_view es') (drop (i + 1) attributes) ≡ all
with_members_put es es' attributes i name v key value is is_name is_value put done =
    ap (λ e. with_members (members_view e) (drop (i + 1) attributes)) put
    ∙ ap (λ m. with_members m (drop (i + 1) attributes)) (members_view-insert_entry es key value ∙
    rw (is_name, is_value) refl)
    ∙ sym (with_members_step (members_view es) attributes i (name, v) is) ∙ done

-- no attribute more
pub with_members_end : (ms : Members) (attributes : List (List ℕ × AttrValue)) (i : ℕ) → length attributes ≤ i →
    with_members ms (drop i attributes) ≡ ms
with_members_end ms attributes i le = ap (with_members ms) (drop_all i attributes le)

-- one entry more
pub with_entries_put : (es es' : List (String Global × Value)) (entries : List (List ℕ × AttrValue)) (i : ℕ)
    (e : List ℕ × AttrValue) (key : String Global) (value : Value) {all : Members}
    → i < length entries → e ≡ get_or entries i e → string_bytes key ≡ e.0 → data_of value ≡ value_data (view e.1) →
    es' ≡ insert_entry string_cmp es key value
    → with_entries (members_view es) (entries_of (map entry_view (drop i entries))) ≡ all →
    with_entries (members_view es') (entries_of (map entry_view (drop (i + 1) entries))) ≡ all
with_entries_put es es' entries i e key value lt is is_name is_value put done =
    let next : drop i entries ≡ e ∷ drop (i + 1) entries = drop_more entries i e lt ∙
    ap (λ x. x ∷ drop (i + 1) entries) (sym is) in
    ap (λ x. with_entries (members_view x) (entries_of (map entry_view (drop (i + 1) entries)))) put
    ∙ ap (λ m. with_entries m (entries_of (map entry_view (drop (i + 1) entries)))) (members_view-insert_entry es key
    value ∙ rw (is_name, is_value) refl)
    ∙ sym (ap (λ x. with_entries (members_view es) (entries_of (map entry_view x))) next) ∙ done

-- items written one after another, for any way to write a list
module _ {X : Type 0} (written : List X → Items) (one : X → Data) (none : written [] ≡ no_items)
    (more : (x : X) (xs : List X) → written (x ∷ xs) ≡ item (one x) (written xs)) where
  pub written_step : (out out' : List Value) (w : Value) (xs : List X) (i : ℕ) (x : X) (all : Items) → i < length xs →
      x ≡ get_or xs i x → data_of w ≡ one x → out' ≡ out ++ w ∷ [] → items_onto out (written (drop i xs)) ≡ all →
      items_onto out' (written (drop (i + 1) xs)) ≡ all
  written_step out out' w xs i x all lt is spelled pushed so_far =
      let next : drop i xs ≡ x ∷ drop (i + 1) xs = drop_more xs i x lt ∙ ap (λ y. y ∷ drop (i + 1) xs) (sym is) in
      ap (λ y. items_onto y (written (drop (i + 1) xs))) pushed
      ∙ items_onto-push out w (written (drop (i + 1) xs))
      ∙ ap (λ y. items_onto out (item y (written (drop (i + 1) xs)))) spelled
      ∙ ap (items_onto out) (sym (more x (drop (i + 1) xs)) ∙ ap written (sym next))
      ∙ so_far

  pub written_end : (out : List Value) (xs : List X) (i : ℕ) (all : Items) → length xs ≤ i →
      items_onto out (written (drop i xs)) ≡ all → items_view out ≡ all
  written_end out xs i all le so_far =
      sym (items_onto-none out) ∙ ap (items_onto out) (sym none ∙ ap written (sym (drop_all i xs le))) ∙ so_far

-- a map that was written
pub map_written : (value : AttrValue) (es es' : List (List ℕ × AttrValue)) (m : BTreeMap (String Global) Value) →
    value ≡ M es → es' ≡ es → members_view m.entries ≡ with_entries no_members (entries_of (map entry_view es')) →
    tagged (codes "M") (data_of (Object m)) ≡ value_data (view value)
map_written value es es' m is same spelled =
    ap (tagged (codes "M")) (view-Object m ∙
    ap object (spelled ∙ ap (λ x. with_entries no_members (entries_of (map entry_view x))) same))
    ∙ ap value_data (sym (view-M es) ∙ ap view (sym is))

pub IfOk-same : {E : Type 0} (r : Result Value E) (a b : Data) → a ≡ b → IfOk r (λ j. data_of j ≡ a) →
    IfOk r (λ j. data_of j ≡ b)
IfOk-same (Ok j) a b e h = h ∙ e
IfOk-same (Err x) a b e h = h

-- a value put in place of another at an equal name
pub put_same : (xs : List (List ℕ × AttrValue)) (i : ℕ) (a : List ℕ × AttrValue) (name : List ℕ) (value : AttrValue)
    (all : List (List ℕ × AttrValue)) → i < length xs → a ≡ get_or xs i a → slice_cmp nat_cmp name a.0 ≡ Equal →
    take i xs ++ put_at name value (drop i xs) ≡ all → set xs i (name, value) ≡ all
put_same xs i a name value all lt is same so_far =
    let next : drop i xs ≡ a ∷ drop (i + 1) xs = drop_more xs i a lt ∙ ap (λ y. y ∷ drop (i + 1) xs) (sym is) in
    let put : put_at name value (drop i xs) ≡ (name, value) ∷ drop (i + 1) xs = ap (put_at name value) next ∙ rw same in
    let split : set xs i (name, value) ≡ take i xs ++ (name, value) ∷ drop (i + 1) xs =
    rw add-one (set_split xs i (name, value) lt) in
    split ∙ ap (λ y. take i xs ++ y) (sym put) ∙ so_far
