-- Placeholders read one after another.
use Rattle.std.proofs.Common.{◌≡◌, ℕ, true, List, [], ◌∷◌, ◌++◌, Result, Ok, Err, Less, nat_cmp, refl, sym, ap, ◌∙◌}
use Rattle.std.proofs.Common.{subst, append_assoc, map, String, string_bytes, string_cmp, Global, if◌then◌else◌}
use Rattle.std.specs.Cmp.Lexicographic.{slice_cmp}
use Rattle.std.specs.List.{AllByRecursion}
use Rattle.std.specs.List.Sorted.{IsStrictlySortedBy}
use Rattle.std.specs.Map.{keys_of}
use Rattle.std.proofs.lemmas.List.{map-append}
use Rattle.serde_json.specs.Data.{Data}
use Rattle.serde_json.specs.Find.{as_str}
use Rattle.serde_json.specs.View.{view, members_view}
use Rattle.serde_json.specs.declared.value.Value.{Value}
use Rattle.dbe_values.specs.Attributes.{is_name}
use Rattle.dbe_values.specs.Faults.{Fails}
use Rattle.dbe_values.specs.Reading.{value_in}
use Rattle.dbe_values.specs.View.{attr_of}
use Rattle.dbe_values.specs.View as attr
use Rattle.dbe_values.specs.declared.value.AttrValue.{AttrValue}
use Rattle.dbe_values.specs.declared.fault.ValueFault.{ValueFault}
use Rattle.dbe_values.specs.declared.fault.ValueFault.TheVariants as v
use Rattle.dbe_values.proofs.LawfulValues.{member_names}
use Rattle.dbe_values.proofs.Unviewed.{attr_of-view}
use Rattle.dbe_cond.specs.Given.{IsBehind}
use Rattle.dbe_lines.specs.Queries.{Faulty, then_entry, or_empty, name_in, names_in, attr_in, seen_as, values_in}
use Rattle.dbe_lines.specs.QueriesRead.{GivesAsked, fault_at}

-- what was read in front of what is to come
abbrev pub in_front : {A : Type 0} → List (List ℕ × A) → Result (List (List ℕ × A)) Faulty →
    Result (List (List ℕ × A)) Faulty
in_front front (Ok more) = Ok (front ++ more)
in_front front (Err f) = Err f

pub in_front-none : {A : Type 0} (read : Result (List (List ℕ × A)) Faulty) → in_front [] read ≡ read
in_front-none (Ok more) = refl
in_front-none (Err f) = refl

in_front-more : {A : Type 0} (front : List (List ℕ × A)) (name : List ℕ) (a : A) (read : Result (List (List ℕ × A))
    Faulty) → in_front front (then_entry name (Ok a) read) ≡ in_front (front ++ (name, a) ∷ []) read
in_front-more front name a (Ok more) = ap Ok (sym (append_assoc front ((name, a) ∷ []) more))
in_front-more front name a (Err f) = refl

-- ---- the order of placeholders

later : (x : List ℕ) (ks : List (String Global)) (front : List (List ℕ)) (k : List ℕ) (rest : List (List ℕ)) →
    AllByRecursion (λ t. slice_cmp nat_cmp x (string_bytes t) ≡ Less) ks → map string_bytes ks ≡ front ++ k ∷ rest →
    slice_cmp nat_cmp x k ≡ Less
later x [] [] k rest h is = absurd (cc)
later x [] (f ∷ front) k rest h is = absurd (cc)
later x (t ∷ ks) [] k rest h is = let same : string_bytes t ≡ k = cc in
    subst (λ y. slice_cmp nat_cmp x y ≡ Less) same h.0
later x (t ∷ ks) (f ∷ front) k rest h is = later x ks front k rest h.1 (cc)

sorted_front : (ks : List (String Global)) (front : List (List ℕ)) (k : List ℕ) (rest : List (List ℕ)) →
    IsStrictlySortedBy string_cmp ks → map string_bytes ks ≡ front ++ k ∷ rest →
    AllByRecursion (λ x. slice_cmp nat_cmp x k ≡ Less) front
unfolding IsStrictlySortedBy
sorted_front ks [] k rest h is = tt
sorted_front [] (f ∷ front) k rest h is = absurd (cc)
sorted_front (t ∷ ks) (f ∷ front) k rest h is =
    let same : string_bytes t ≡ f = cc in
    let others : map string_bytes ks ≡ front ++ k ∷ rest = cc in (
      subst (λ y. slice_cmp nat_cmp y k ≡ Less) same (later (string_bytes t) ks front k rest h.0 others),
      sorted_front ks front k rest h.1 others,
    )

pub names_behind : {A : Type 0} (front : List (List ℕ × A)) (all es others : List (String Global × Value))
    (e : String Global × Value) (placeholder : List ℕ) → IsStrictlySortedBy string_cmp (keys_of all) →
    es ≡ e ∷ others → placeholder ≡ string_bytes e.0
    → keys_of front ++ member_names es ≡ member_names all → IsBehind placeholder front
names_behind front all es others e placeholder sorted next named order =
    subst (λ p. IsBehind p front) (sym named) (sorted_front (keys_of all) (keys_of front) (string_bytes e.0)
    (member_names others) sorted (sym order ∙ ap (λ x. keys_of front ++ member_names x) next))

pub order_step : {A : Type 0} (front more : List (List ℕ × A)) (es others : List (String Global × Value))
    (e : String Global × Value) (placeholder : List ℕ) (a : A) (all : List (List ℕ)) → es ≡ e ∷ others →
    placeholder ≡ string_bytes e.0 → more ≡ front ++ (placeholder, a) ∷ []
    → keys_of front ++ member_names es ≡ all → keys_of more ++ member_names others ≡ all
order_step front more es others e placeholder a all next named pushed order =
    ap (λ y. keys_of y ++ member_names others) pushed
    ∙ ap (λ y. y ++ member_names others) (map-append (λ x. x.0) front ((placeholder, a) ∷ []))
    ∙ append_assoc (keys_of front) (placeholder ∷ []) (member_names others)
    ∙ ap (λ y. keys_of front ++ y ∷ member_names others) named
    ∙ ap (λ y. keys_of front ++ member_names y) (sym next)
    ∙ order

-- ---- one more name

name_known : (t : List ℕ) → is_name t ≡ true → (if is_name t then Ok t else Err v.BadName) ≡ Ok t
name_known t is = rw is refl

pub names_step : (front more : List (List ℕ × List ℕ)) (es others : List (String Global × Value)) (e : String Global ×
    Value) (placeholder name : List ℕ) (all : Result (List (List ℕ × List ℕ)) Faulty) → es ≡ e ∷ others →
    placeholder ≡ string_bytes e.0
    → name ≡ or_empty (as_str (view e.1)) → is_name name ≡ true → more ≡ front ++ (placeholder, name) ∷ [] →
    in_front front (names_in (members_view es)) ≡ all → in_front more (names_in (members_view others)) ≡ all
names_step front more es others e placeholder name all next named text good pushed so_far =
    let here : name_in (view e.1) ≡ Ok name = subst (λ t. name_in (view e.1) ≡ Ok t) (sym text)
    (name_known (or_empty (as_str (view e.1))) (subst (λ t. is_name t ≡ true) text good)) in
    ap (λ f. in_front f (names_in (members_view others))) pushed
    ∙ sym (in_front-more front placeholder name (names_in (members_view others)))
    ∙ ap (λ p. in_front front (then_entry p (Ok name) (names_in (members_view others)))) named
    ∙ ap (λ r. in_front front (then_entry (string_bytes e.0) r (names_in (members_view others)))) (sym here)
    ∙ ap (λ x. in_front front (names_in (members_view x))) (sym next)
    ∙ so_far

-- ---- one more value

pub values_step : (front more : List (List ℕ × AttrValue)) (es others : List (String Global × Value))
    (e : String Global × Value) (placeholder : List ℕ) (a : AttrValue) (all : Result (List (List ℕ × AttrValue))
    Faulty) → es ≡ e ∷ others → placeholder ≡ string_bytes e.0
    → value_in 32 (view e.1) ≡ Ok (attr.view a) → more ≡ front ++ (placeholder, a) ∷ [] →
    in_front front (values_in (members_view es)) ≡ all → in_front more (values_in (members_view others)) ≡ all
values_step front more es others e placeholder a all next named read pushed so_far =
    let here : attr_in (view e.1) ≡ Ok a = ap seen_as read ∙ ap Ok (attr_of-view a) in
    ap (λ f. in_front f (values_in (members_view others))) pushed
    ∙ sym (in_front-more front placeholder a (values_in (members_view others)))
    ∙ ap (λ p. in_front front (then_entry p (Ok a) (values_in (members_view others)))) named
    ∙ ap (λ r. in_front front (then_entry (string_bytes e.0) r (values_in (members_view others)))) (sym here)
    ∙ ap (λ x. in_front front (values_in (members_view x))) (sym next)
    ∙ so_far

-- a value that is none
fault_read : (front : List (List ℕ × AttrValue)) (others : List (String Global × Value)) (name : List ℕ) (d : Data)
    (why : ValueFault) → value_in 32 d ≡ Err why →
    in_front front (then_entry name (attr_in d) (values_in (members_view others))) ≡ Err (name, why)
fault_read front others name d why is =
    ap (λ r. in_front front (then_entry name (seen_as r) (values_in (members_view others)))) is

at_fault : (front : List (List ℕ × AttrValue)) (es others : List (String Global × Value)) (e : String Global ×
    Value) (placeholder : List ℕ) (why : ValueFault) (all : Result (List (List ℕ × AttrValue)) Faulty) →
    es ≡ e ∷ others → placeholder ≡ string_bytes e.0
    → value_in 32 (view e.1) ≡ Err why → in_front front (values_in (members_view es)) ≡ all →
    all ≡ Err (placeholder, why)
at_fault front es others e placeholder why all next named is so_far =
    sym so_far ∙ ap (λ x. in_front front (values_in (members_view x))) next ∙
    fault_read front others (string_bytes e.0) (view e.1) why is ∙ ap (λ p. Err (p, why)) (sym named)

pub values_fault : (front : List (List ℕ × AttrValue)) (es others : List (String Global × Value)) (e : String Global ×
    Value) (placeholder : List ℕ) (why : ValueFault) (all : Result (List (List ℕ × AttrValue)) Faulty) →
    es ≡ e ∷ others → placeholder ≡ string_bytes e.0
    → Fails why (value_in 32 (view e.1)) → in_front front (values_in (members_view es)) ≡ all →
    GivesAsked {A = List (List ℕ × AttrValue)} (Err (fault_at placeholder why)) all
values_fault front es others e placeholder v.Memory all next named fails so_far = tt
values_fault front es others e placeholder v.Shape all next named fails so_far =
    at_fault front es others e placeholder v.Shape all next named fails so_far
values_fault front es others e placeholder v.BadNumber all next named fails so_far =
    at_fault front es others e placeholder v.BadNumber all next named fails so_far
values_fault front es others e placeholder v.BadBase64 all next named fails so_far =
    at_fault front es others e placeholder v.BadBase64 all next named fails so_far
values_fault front es others e placeholder v.EmptySet all next named fails so_far =
    at_fault front es others e placeholder v.EmptySet all next named fails so_far
values_fault front es others e placeholder v.DoubledElement all next named fails so_far =
    at_fault front es others e placeholder v.DoubledElement all next named fails so_far
values_fault front es others e placeholder v.TooDeep all next named fails so_far =
    at_fault front es others e placeholder v.TooDeep all next named fails so_far
values_fault front es others e placeholder v.BadName all next named fails so_far =
    at_fault front es others e placeholder v.BadName all next named fails so_far
