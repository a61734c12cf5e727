-- What holds of values that are read one after another.
use Rattle.std.proofs.Common.{◌≡◌, ◌≢◌, ℕ, zero, suc, ◌-◌, List, [], ◌∷◌, ◌++◌, get_or, String, string_bytes}
use Rattle.std.proofs.Common.{string_cmp, nat_cmp, Global, refl, sym, ap, ◌∙◌, subst, arith}
use Rattle.std.specs.Prelude.{map}
use Rattle.std.specs.Str.{IsUtf8}
use Rattle.std.specs.Cmp.Lexicographic.{slice_cmp}
use Rattle.std.specs.List.Sorted.{IsStrictlySortedBy}
use Rattle.std.specs.Map.{keys_of}
use Rattle.std.proofs.lemmas.List.{append-nil, append_assoc, map-append, get_or_append_left, length-append}
use Rattle.serde_json.specs.declared.value.Value.{Value}
use Rattle.dbe_values.specs.Val as v
use Rattle.dbe_values.specs.Val.{Val, Vals, Entries}
use Rattle.dbe_values.specs.View.{view, vals_of, entries_of, entry_view}
use Rattle.dbe_values.specs.Sets.{IsIncreasing}
use Rattle.dbe_values.specs.Lawful.{IsLawful, AreLawful, AreLawfulEntries, entry_names, names_of}
use Rattle.dbe_values.specs.declared.value.AttrValue.{AttrValue, L, M}
use Rattle.dbe_values.proofs.Views.{view-L, view-M}
use Rattle.dbe_values.proofs.Ordered.{keys_rise}

pub lawful_more : (left : ℕ) (front : List AttrValue) (x : AttrValue) → AreLawful left (vals_of (map view front)) →
    IsLawful left (view x) → AreLawful left (vals_of (map view (front ++ x ∷ [])))
lawful_more left [] x h k = (k, tt)
lawful_more left (y ∷ front) x h k = (h.0, lawful_more left front x h.1 k)

pub lawful_entry : (left : ℕ) (front : List (List ℕ × AttrValue)) (x : List ℕ × AttrValue) →
    AreLawfulEntries left (entries_of (map entry_view front)) → IsUtf8 x.0 → IsLawful left (view x.1) →
    AreLawfulEntries left (entries_of (map entry_view (front ++ x ∷ [])))
lawful_entry left [] x h u k = (u, k, tt)
lawful_entry left (y ∷ front) x h u k = (h.0, h.1, lawful_entry left front x h.2 u k)

entry_names_of : (es : List (List ℕ × AttrValue)) → entry_names (entries_of (map entry_view es)) ≡ names_of es
entry_names_of [] = refl
entry_names_of (e ∷ es) = ap (λ x. e.0 ∷ x) (entry_names_of es)

list_at : (left : ℕ) (xs : Vals) → left ≢ 0 → AreLawful (left - 1) xs → IsLawful left (v.list xs)
list_at zero xs some h = absurd (some refl)
list_at (suc left) xs some h = subst (λ n. AreLawful n xs) {x = suc left - 1} (omega arith) h

map_at : (left : ℕ) (es : Entries) → left ≢ 0 → IsIncreasing (entry_names es) → AreLawfulEntries (left - 1) es →
    IsLawful left (v.map es)
map_at zero es some r h = absurd (some refl)
map_at (suc left) es some r h = (r, subst (λ n. AreLawfulEntries n es) {x = suc left - 1} (omega arith) h)

pub lawful_list : (left : ℕ) (vs : List AttrValue) → left ≢ 0 → AreLawful (left - 1) (vals_of (map view vs)) →
    IsLawful left (view (L vs))
lawful_list left vs some h = subst (IsLawful left) (sym (view-L vs)) (list_at left (vals_of (map view vs)) some h)

pub lawful_map : (left : ℕ) (es : List (List ℕ × AttrValue)) → left ≢ 0 → IsIncreasing (names_of es) →
    AreLawfulEntries (left - 1) (entries_of (map entry_view es)) → IsLawful left (view (M es))
lawful_map left es some r h = subst (IsLawful left) (sym (view-M es)) (map_at left (entries_of (map entry_view es))
    some (subst IsIncreasing (sym (entry_names_of es)) r) h)

-- ---- the names of members

abbrev pub member_names : List (String Global × Value) → List (List ℕ)
member_names es = map string_bytes (keys_of es)

pub names_rise : (es : List (String Global × Value)) → IsStrictlySortedBy string_cmp (keys_of es) →
    IsIncreasing (member_names es)
names_rise es h = keys_rise string_bytes (keys_of es) h

pub names_step : (es others : List (String Global × Value)) (e : String Global × Value) (front more : List (List ℕ ×
    AttrValue)) (name : List ℕ) (x : AttrValue) (all : List (List ℕ)) → es ≡ e ∷ others → name ≡ string_bytes e.0 →
    more ≡ front ++ (name, x) ∷ []
    → names_of front ++ member_names es ≡ all → names_of more ++ member_names others ≡ all
names_step es others e front more name x all next named pushed so_far =
    ap (λ y. names_of y ++ member_names others) pushed
    ∙ ap (λ y. y ++ member_names others) (map-append (λ a. a.0) front ((name, x) ∷ []))
    ∙ append_assoc (names_of front) (name ∷ []) (member_names others)
    ∙ ap (λ y. names_of front ++ y ∷ member_names others) named
    ∙ ap (λ y. names_of front ++ member_names y) (sym next)
    ∙ so_far

pub names_end : (es : List (String Global × Value)) (front : List (List ℕ × AttrValue)) (all : List (List ℕ)) →
    es ≡ [] → names_of front ++ member_names es ≡ all → names_of front ≡ all
names_end es front all none so_far = sym (append-nil (names_of front)) ∙
    ap (λ y. names_of front ++ member_names y) (sym none) ∙ so_far

pub read_names_rise : (front : List (List ℕ × AttrValue)) (all : List (String Global × Value)) →
    IsStrictlySortedBy string_cmp (keys_of all) → names_of front ≡ member_names all → IsIncreasing (names_of front)
read_names_rise front all ordered is = subst IsIncreasing (sym is) (names_rise all ordered)

front_increasing : (zs ys : List (List ℕ)) → IsIncreasing (zs ++ ys) → IsIncreasing zs
front_increasing zs ys r i j lt h =
    let a : get_or (zs ++ ys) i [] ≡ get_or zs i [] = get_or_append_left zs ys [] i (omega arith) in
    let b : get_or (zs ++ ys) j [] ≡ get_or zs j [] = get_or_append_left zs ys [] j h in
    ap (λ x. slice_cmp nat_cmp x (get_or zs j [])) (sym a) ∙ ap (slice_cmp nat_cmp (get_or (zs ++ ys) i [])) (sym b) ∙
    r i j lt (omega (arith, length-append zs ys))

-- a name that comes next can go last
pub next_name : (es others : List (String Global × Value)) (e : String Global × Value) (front : List (List ℕ ×
    AttrValue)) (name : List ℕ) (all : List (String Global × Value)) → IsStrictlySortedBy string_cmp (keys_of all) →
    es ≡ e ∷ others → name ≡ string_bytes e.0
    → names_of front ++ member_names es ≡ member_names all → IsIncreasing (names_of front ++ name ∷ [])
next_name es others e front name all ordered next named so_far =
    let whole : member_names all ≡ (names_of front ++ name ∷ []) ++ member_names others =
    sym so_far ∙ ap (λ y. names_of front ++ member_names y) next ∙ ap (λ y. names_of front ++ y ∷ member_names others)
    (sym named) ∙ sym (append_assoc (names_of front) (name ∷ []) (member_names others)) in
    front_increasing (names_of front ++ name ∷ []) (member_names others) (subst IsIncreasing whole
    (names_rise all ordered))
