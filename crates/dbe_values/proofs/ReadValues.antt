-- A value read by its one member, and values one after another.
use Rattle.std.proofs.Common.{◌≡◌, ◌≢◌, ℕ, zero, suc, ◌+◌, ◌-◌, ◌<◌, ◌≤◌, List, [], ◌∷◌, ◌++◌, length, drop, get_or}
use Rattle.std.proofs.Common.{Some, None, Result, Ok, Err, String, string_bytes, Global, refl, sym, ap, ◌∙◌, subst}
use Rattle.std.proofs.Common.{arith}
use Rattle.std.specs.Prelude.{map}
use Rattle.serde_json.specs.Data.{Data, null, boolean, number, string, array, object, Items, Members, no_members}
use Rattle.serde_json.specs.Data.{member}
use Rattle.serde_json.specs.Find.{as_array, as_object}
use Rattle.serde_json.specs.View.{view as data_of, items_view, members_view}
use Rattle.serde_json.specs.declared.value.Value.{Value}
use Rattle.dbe_values.specs.Val as v
use Rattle.dbe_values.specs.Val.{Val, Vals, Entries}
use Rattle.dbe_values.specs.View.{view, vals_of, entries_of, entry_view}
use Rattle.dbe_values.specs.declared.value.AttrValue.{AttrValue, L, M}
use Rattle.dbe_values.proofs.Views.{view-L, view-M}
use Rattle.dbe_values.proofs.Elements.{Fails-first, Fails-same}
use Rattle.dbe_values.specs.Faults.{◌>>=◌, Fails, Gives}
use Rattle.dbe_values.specs.Reading.{single_of, kind_of, kind_in, value_in, list_in, map_in, values_in, entries_in}
use Rattle.dbe_values.specs.Reading.{then_val, then_entry}
use Rattle.std.proofs.lemmas.List.{drop_more, drop_all}
use Rattle.dbe_values.specs.declared.kind.Kind.{Kind}
use Rattle.dbe_values.specs.declared.kind.Kind.TheVariants as kind
use Rattle.dbe_values.specs.declared.fault.ValueFault.{ValueFault}
use Rattle.dbe_values.specs.declared.fault.ValueFault.TheVariants.{Shape}

some_same : (a b : List ℕ × Data) → Some a ≡ Some b → a ≡ b
some_same a b h = cc

by_parts : (left : ℕ) (m n : List ℕ) (d e : Data) → m ≡ n → d ≡ e →
    kind_in (kind_of m) d (list_in left d) (map_in left d) ≡ kind_in (kind_of n) e (list_in left e) (map_in left e)
by_parts left m n d e k l = ap (λ x. kind_in (kind_of x) d (list_in left d) (map_in left d)) k ∙
    ap (λ x. kind_in (kind_of n) x (list_in left x) (map_in left x)) l

pub value_none : (left : ℕ) (d : Data) → None ≡ single_of d → value_in left d ≡ Err Shape
value_none left null h = refl
value_none left (boolean b) h = refl
value_none left (number n) h = refl
value_none left (string s) h = refl
value_none left (array ds) h = refl
value_none left (object no_members) h = refl
value_none left (object (member n d no_members)) h = absurd (cc)
value_none left (object (member n d (member m e ms))) h = refl

pub value_single : (left : ℕ) (d : Data) (name : List ℕ) (e : Data) → Some (name, e) ≡ single_of d →
    value_in left d ≡ kind_in (kind_of name) e (list_in left e) (map_in left e)
value_single left null name e h = absurd (cc)
value_single left (boolean b) name e h = absurd (cc)
value_single left (number n) name e h = absurd (cc)
value_single left (string s) name e h = absurd (cc)
value_single left (array ds) name e h = absurd (cc)
value_single left (object no_members) name e h = absurd (cc)
value_single left (object (member n d no_members)) name e h =
    let same : (n, d) ≡ (name, e) = some_same (n, d) (name, e) (sym h) in
    let k : n ≡ name = ap (λ x. x.0) same in
    let l : d ≡ e = ap (λ x. x.1) same in
    by_parts left n name d e k l
value_single left (object (member n d (member m f ms))) name e h = absurd (cc)

pub list_items : (left n : ℕ) (d : Data) (ds : Items) → left ≡ n + 1 → Some ds ≡ as_array d →
    list_in left d ≡ (values_in n ds >>= λ vs. Ok (v.list vs))
list_items left n null ds e h = absurd (cc)
list_items left n (boolean b) ds e h = absurd (cc)
list_items left n (number x) ds e h = absurd (cc)
list_items left n (string s) ds e h = absurd (cc)
list_items left n (object ms) ds e h = absurd (cc)
list_items zero n (array es) ds e h = absurd (omega arith)
list_items (suc left) n (array es) ds e h =
    let k : es ≡ ds = cc in
    let l : left ≡ n = omega arith in
    rw (k, l)

pub list_other : (left : ℕ) (d : Data) → 0 < left → None ≡ as_array d → list_in left d ≡ Err Shape
list_other zero d some h = absurd (omega arith)
list_other (suc left) null some h = refl
list_other (suc left) (boolean b) some h = refl
list_other (suc left) (number x) some h = refl
list_other (suc left) (string s) some h = refl
list_other (suc left) (object ms) some h = refl
list_other (suc left) (array es) some h = absurd (cc)

pub map_members : (left n : ℕ) (d : Data) (ms : Members) → left ≡ n + 1 → Some ms ≡ as_object d →
    map_in left d ≡ (entries_in n ms >>= λ es. Ok (v.map es))
map_members left n null ms e h = absurd (cc)
map_members left n (boolean b) ms e h = absurd (cc)
map_members left n (number x) ms e h = absurd (cc)
map_members left n (string s) ms e h = absurd (cc)
map_members left n (array ds) ms e h = absurd (cc)
map_members zero n (object es) ms e h = absurd (omega arith)
map_members (suc left) n (object es) ms e h =
    let k : es ≡ ms = cc in
    let l : left ≡ n = omega arith in
    rw (k, l)

pub map_other : (left : ℕ) (d : Data) → 0 < left → None ≡ as_object d → map_in left d ≡ Err Shape
map_other zero d some h = absurd (omega arith)
map_other (suc left) null some h = refl
map_other (suc left) (boolean b) some h = refl
map_other (suc left) (number x) some h = refl
map_other (suc left) (string s) some h = refl
map_other (suc left) (array ds) some h = refl
map_other (suc left) (object es) some h = absurd (cc)

-- values in front of others
abbrev pub vals_onto : List Val → Vals → Vals
vals_onto [] vs = vs
vals_onto (x ∷ xs) vs = v.val x (vals_onto xs vs)

abbrev pub after_vals : List Val → Result Vals ValueFault → Result Vals ValueFault
after_vals front others = others >>= λ vs. Ok (vals_onto front vs)

abbrev pub entries_onto : List (List ℕ × Val) → Entries → Entries
entries_onto [] es = es
entries_onto (x ∷ xs) es = v.entry x.0 x.1 (entries_onto xs es)

abbrev pub after_entries : List (List ℕ × Val) → Result Entries ValueFault → Result Entries ValueFault
after_entries front others = others >>= λ es. Ok (entries_onto front es)

pub Gives-same : {A B : Type 0} (f : A → B) (x : Result A ValueFault) (r s : Result B ValueFault) → r ≡ s →
    Gives f x r → Gives f x s
Gives-same {A} {B} f x r s q h = subst (λ (y : Result B ValueFault). Gives f x y) q h

pub value_list : (left : ℕ) (d : Data) (name : List ℕ) (e : Data) (k : Kind) → Some (name, e) ≡ single_of d →
    Some k ≡ kind_of name → k ≡ kind.L → list_in left e ≡ value_in left d
value_list left d name e k single named is = sym (value_single left d name e single ∙
    ap (λ x. kind_in x e (list_in left e) (map_in left e)) (sym named ∙ ap Some is))

pub value_map : (left : ℕ) (d : Data) (name : List ℕ) (e : Data) (k : Kind) → Some (name, e) ≡ single_of d →
    Some k ≡ kind_of name → k ≡ kind.M → map_in left e ≡ value_in left d
value_map left d name e k single named is = sym (value_single left d name e single ∙
    ap (λ x. kind_in x e (list_in left e) (map_in left e)) (sym named ∙ ap Some is))

onto_more : (front : List AttrValue) (x : AttrValue) (vs : Vals) →
    vals_onto (map view (front ++ x ∷ [])) vs ≡ vals_onto (map view front) (v.val (view x) vs)
onto_more [] x vs = refl
onto_more (y ∷ front) x vs = ap (v.val (view y)) (onto_more front x vs)

after_more : (front : List AttrValue) (x : AttrValue) (r : Result Vals ValueFault) →
    after_vals (map view (front ++ x ∷ [])) r ≡ after_vals (map view front) (then_val (Ok (view x)) r)
after_more front x (Ok vs) = ap Ok (onto_more front x vs)
after_more front x (Err e) = refl

pub vals_step : (left : ℕ) (items : List Value) (i : ℕ) (w : Value) (front more : List AttrValue) (x : AttrValue)
    (all : Result Vals ValueFault) → i < length items → w ≡ get_or items i w → more ≡ front ++ x ∷ [] →
    value_in left (data_of w) ≡ Ok (view x)
    → after_vals (map view front) (values_in left (items_view (drop i items))) ≡ all →
    after_vals (map view more) (values_in left (items_view (drop (i + 1) items))) ≡ all
vals_step left items i w front more x all lt is pushed read so_far =
    let next : drop i items ≡ w ∷ drop (i + 1) items = drop_more items i w lt ∙
    ap (λ y. y ∷ drop (i + 1) items) (sym is) in
    let whole : values_in left (items_view (drop i items)) ≡ then_val (Ok (view x))
    (values_in left (items_view (drop (i + 1) items))) = ap (λ y. values_in left (items_view y)) next ∙
    ap (λ y. then_val y (values_in left (items_view (drop (i + 1) items)))) read in
    ap (λ y. after_vals (map view y) (values_in left (items_view (drop (i + 1) items)))) pushed
    ∙ after_more front x (values_in left (items_view (drop (i + 1) items)))
    ∙ ap (after_vals (map view front)) (sym whole)
    ∙ so_far

onto_none : (front : List Val) → vals_onto front v.no_vals ≡ vals_of front
onto_none [] = refl
onto_none (x ∷ front) = ap (v.val x) (onto_none front)

pub vals_end : (left : ℕ) (items : List Value) (i : ℕ) (front : List AttrValue) (all : Result Vals ValueFault) →
    length items ≤ i → after_vals (map view front) (values_in left (items_view (drop i items))) ≡ all →
    all ≡ Ok (vals_of (map view front))
vals_end left items i front all le so_far =
    let none : drop i items ≡ [] = drop_all i items le in
    sym so_far ∙ ap (λ y. after_vals (map view front) (values_in left (items_view y))) none ∙
    ap Ok (onto_none (map view front))

entries_more : (front : List (List ℕ × AttrValue)) (x : List ℕ × AttrValue) (es : Entries) →
    entries_onto (map entry_view (front ++ x ∷ [])) es ≡ entries_onto (map entry_view front) (v.entry x.0 (view x.1) es)
entries_more [] x es = refl
entries_more (y ∷ front) x es = ap (v.entry y.0 (view y.1)) (entries_more front x es)

after_entry : (front : List (List ℕ × AttrValue)) (x : List ℕ × AttrValue) (r : Result Entries ValueFault) →
    after_entries (map entry_view (front ++ x ∷ [])) r ≡ after_entries (map entry_view front)
    (then_entry x.0 (Ok (view x.1)) r)
after_entry front x (Ok es) = ap Ok (entries_more front x es)
after_entry front x (Err e) = refl

pub entries_step : (left : ℕ) (es others : List (String Global × Value)) (e : String Global ×
    Value) (front more : List (List ℕ × AttrValue)) (name : List ℕ) (x : AttrValue) (all : Result Entries ValueFault)
    → es ≡ e ∷ others → name ≡ string_bytes e.0 → more ≡ front ++ (name, x) ∷ [] →
    value_in left (data_of e.1) ≡ Ok (view x)
    → after_entries (map entry_view front) (entries_in left (members_view es)) ≡ all →
    after_entries (map entry_view more) (entries_in left (members_view others)) ≡ all
entries_step left es others e front more name x all next named pushed read so_far =
    let whole : entries_in left (members_view es) ≡ then_entry name (Ok (view x))
    (entries_in left (members_view others)) = ap (λ y. entries_in left (members_view y)) next ∙ rw (read, named) in
    ap (λ y. after_entries (map entry_view y) (entries_in left (members_view others))) pushed
    ∙ after_entry front (name, x) (entries_in left (members_view others))
    ∙ ap (after_entries (map entry_view front)) (sym whole)
    ∙ so_far

entries_none : (front : List (List ℕ × Val)) → entries_onto front v.no_entries ≡ entries_of front
entries_none [] = refl
entries_none (x ∷ front) = ap (v.entry x.0 x.1) (entries_none front)

pub entries_end : (left : ℕ) (es : List (String Global × Value)) (front : List (List ℕ × AttrValue))
    (all : Result Entries ValueFault) → es ≡ [] →
    after_entries (map entry_view front) (entries_in left (members_view es)) ≡ all →
    all ≡ Ok (entries_of (map entry_view front))
entries_end left es front all none so_far =
    sym so_far ∙ ap (λ y. after_entries (map entry_view front) (entries_in left (members_view y))) none ∙
    ap Ok (entries_none (map entry_view front))

pub list_made : (left : ℕ) (d : Data) (xs ys : List Value) (vs : List AttrValue) → left ≢ 0 →
    Some (items_view ys) ≡ as_array d → xs ≡ ys → values_in (left - 1) (items_view xs) ≡ Ok (vals_of (map view vs)) →
    list_in left d ≡ Ok (view (L vs))
list_made left d xs ys vs some is same h =
    list_items left (left - 1) d (items_view ys) (omega arith) is
    ∙ ap (λ x. values_in (left - 1) (items_view x) >>= λ ws. Ok (v.list ws)) (sym same)
    ∙ ap (λ x. x >>= λ ws. Ok (v.list ws)) h
    ∙ ap Ok (sym (view-L vs))

pub list_failed : (left : ℕ) (d : Data) (xs ys : List Value) (e : ValueFault) → left ≢ 0 →
    Some (items_view ys) ≡ as_array d → xs ≡ ys → Fails e (values_in (left - 1) (items_view xs)) →
    Fails e (list_in left d)
list_failed left d xs ys e some is same h =
    let whole : (values_in (left - 1) (items_view xs) >>= λ ws. Ok (v.list ws)) ≡ list_in left d =
    ap (λ x. values_in (left - 1) (items_view x) >>= λ ws. Ok (v.list ws)) same ∙
    sym (list_items left (left - 1) d (items_view ys) (omega arith) is) in
    Fails-same e (values_in (left - 1) (items_view xs) >>= λ ws. Ok (v.list ws)) (list_in left d) whole
    (Fails-first e (values_in (left - 1) (items_view xs)) (λ ws. Ok (v.list ws)) h)

pub map_made : (left : ℕ) (d : Data) (ms : List (String Global × Value)) (es : List (List ℕ × AttrValue)) → left ≢ 0 →
    Some (members_view ms) ≡ as_object d →
    entries_in (left - 1) (members_view ms) ≡ Ok (entries_of (map entry_view es)) → map_in left d ≡ Ok (view (M es))
map_made left d ms es some is h =
    map_members left (left - 1) d (members_view ms) (omega arith) is
    ∙ ap (λ x. x >>= λ fs. Ok (v.map fs)) h
    ∙ ap Ok (sym (view-M es))

pub map_failed : (left : ℕ) (d : Data) (ms : List (String Global × Value)) (e : ValueFault) → left ≢ 0 →
    Some (members_view ms) ≡ as_object d → Fails e (entries_in (left - 1) (members_view ms)) → Fails e (map_in left d)
map_failed left d ms e some is h =
    let whole : (entries_in (left - 1) (members_view ms) >>= λ fs. Ok (v.map fs)) ≡ map_in left d =
    sym (map_members left (left - 1) d (members_view ms) (omega arith) is) in
    Fails-same e (entries_in (left - 1) (members_view ms) >>= λ fs. Ok (v.map fs)) (map_in left d) whole
    (Fails-first e (entries_in (left - 1) (members_view ms)) (λ fs. Ok (v.map fs)) h)
