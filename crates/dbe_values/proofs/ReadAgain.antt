-- Reading what was written.
use Rattle.std.proofs.Common.{◌≡◌, ℕ, zero, suc, ◌<◌, List, [], ◌∷◌, ◌++◌, length, get_or, Some, Result, Ok, Less}
use Rattle.std.proofs.Common.{Greater, refl, sym, ap, ◌∙◌, subst, arith}
use Rattle.std.specs.Prelude.{map}
use Rattle.std.specs.Str.{IsUtf8}
use Rattle.std.specs.List.{All}
use Rattle.std.proofs.lemmas.List.{append-nil, append_assoc, length-append, get_or_append_left, get_or-append-add}
use Rattle.std.proofs.lemmas.List.Edits.{insert_end}
use Rattle.std.proofs.lemmas.List.Elements.{All-head, All-tail}
use Rattle.serde_json.specs.Data.{Data, string, array, Items, no_items, item, Members, no_members, member, put}
use Rattle.base64.specs.GeneralPurpose.{decode_of, encode_of, IsBytes}
use Rattle.base64.specs.Engines.{standard}
use Rattle.base64.proofs.EngineFacts.{decode_of-encode_of}
use Rattle.dbe_num.specs.Decimal.{Decimal, IsNormal}
use Rattle.dbe_num.specs.NormalText.{normal_text}
use Rattle.dbe_num.proofs.Again.{read_again}
use Rattle.dbe_values.specs.Val as v
use Rattle.dbe_values.specs.Val.{Val, Vals, Entries}
use Rattle.dbe_values.specs.View.{view, entries_of, entry_view}
use Rattle.dbe_values.specs.Sets.{placed, IsIncreasing, IsGap, IsNumberText, IsSetOf}
use Rattle.dbe_values.specs.Lawful.{AreBytes, IsLawful, AreLawful, AreLawfulEntries, IsLawfulAttribute, IsLawfulItem}
use Rattle.dbe_values.specs.Lawful.{entry_names, names_of}
use Rattle.dbe_values.specs.Faults.{◌>>=◌, or_fault}
use Rattle.dbe_values.specs.Reading.{text_in, number_in, number_text_in, binary_in, or_bad_number, or_bad_base64}
use Rattle.dbe_values.specs.Reading.{elements_after, elements_in, value_in, values_in, entries_in, then_val}
use Rattle.dbe_values.specs.Reading.{then_entry}
use Rattle.dbe_values.specs.Writing.{base64_text, strings, base64_texts, value_data, vals_data, with_entries}
use Rattle.dbe_values.specs.Writing.{with_members, item_data}
use Rattle.dbe_values.specs.Items.{attribute_in, attributes_in, then_attribute, item_in}
use Rattle.dbe_values.specs.declared.value.AttrValue.{AttrValue}
use Rattle.dbe_values.specs.declared.fault.ValueFault.{ValueFault}
use Rattle.dbe_values.specs.declared.fault.ValueFault.TheVariants.{DoubledElement}
use Rattle.dbe_values.proofs.Placing.{order, turned, placed_at}

-- ---- one element

are_bytes : (b : List ℕ) → AreBytes b → IsBytes b
are_bytes [] h i = omega arith
are_bytes (x ∷ b) h zero = h 0 0 (omega arith)
are_bytes (x ∷ b) h (suc i) = are_bytes b (All-tail (λ y. y < 256) x b h) i

decoded : (b : List ℕ) → AreBytes b → decode_of standard (encode_of standard b) ≡ Ok b
decoded b h = decode_of-encode_of standard b refl (are_bytes b h)

binary_again : (b : List ℕ) → AreBytes b → binary_in (base64_text b) ≡ Ok b
binary_again b h = ap or_bad_base64 (decoded b h)

number_again : (n : Decimal) → IsNormal n → number_in (string (normal_text n)) ≡ Ok n
number_again n h = ap or_bad_number (read_again n h)

number_text_again : (t : List ℕ) → IsNumberText t → number_text_in (string t) ≡ Ok t
number_text_again t h =
    ap (λ x. number_text_in (string x)) h.written ∙
    ap (λ r. r >>= λ n. Ok (normal_text n)) (number_again h.number h.normal) ∙ ap Ok (sym h.written)

-- ---- a set

last_gap : (xs : List (List ℕ)) (x : List ℕ) (ys : List (List ℕ)) → IsIncreasing (xs ++ x ∷ ys) → IsGap xs x (length xs)
last_gap xs x ys r = record {
  within = omega arith;
  below = λ k lt.
      let at_k : get_or (xs ++ x ∷ ys) k [] ≡ get_or xs k [] = get_or_append_left xs (x ∷ ys) [] k lt in
      let at_x : get_or (xs ++ x ∷ ys) (length xs) [] ≡ x = ap (λ n. get_or (xs ++ x ∷ ys) n []) (omega arith) ∙
      get_or-append-add xs (x ∷ ys) 0 [] in
      let less : order (get_or xs k []) x ≡ Less = ap (λ z. order z x) (sym at_k) ∙
      ap (order (get_or (xs ++ x ∷ ys) k [])) (sym at_x) ∙
      r k (length xs) lt (omega (arith, length-append xs (x ∷ ys))) in
      turned (get_or xs k []) x Less less;
  above = λ k le lt. absurd (omega arith);
}

placed_last : (xs : List (List ℕ)) (x : List ℕ) (ys : List (List ℕ)) → IsIncreasing (xs ++ x ∷ ys) →
    placed x xs ≡ Some (xs ++ x ∷ [])
placed_last xs x ys r = placed_at xs x (length xs) (omega arith) (last_gap xs x ys r) ∙ ap Some (insert_end xs x)

module _ (element : Data → Result (List ℕ) ValueFault) (spelled : List ℕ → Data) (written : List (List ℕ) →
    Items) (none : written [] ≡ no_items) (more : (x : List ℕ) (xs : List (List ℕ)) →
    written (x ∷ xs) ≡ item (spelled x) (written xs))
    (P : List ℕ → Type 0) (again : (x : List ℕ) → P x → element (spelled x) ≡ Ok x) where
  elements_again : (done xs : List (List ℕ)) → IsIncreasing (done ++ xs) → All P xs →
      elements_after element done (written xs) ≡ Ok (done ++ xs)
  elements_again done [] r a = ap (elements_after element done) none ∙ ap Ok (sym (append-nil done))
  elements_again done (x ∷ xs) r a =
      let assoc : (done ++ x ∷ []) ++ xs ≡ done ++ x ∷ xs = append_assoc done (x ∷ []) xs in
      ap (elements_after element done) (more x xs)
      ∙ ap (λ e. e >>= λ y. or_fault DoubledElement (placed y done) >>= λ zs. elements_after element zs (written xs))
      (again x (All-head P x xs a))
      ∙ ap (λ o. or_fault DoubledElement o >>= λ zs. elements_after element zs (written xs)) (placed_last done x xs r)
      ∙ elements_again (done ++ x ∷ []) xs (subst IsIncreasing (sym assoc) r) (All-tail P x xs a)
      ∙ ap Ok assoc

  pub set_again : (xs : List (List ℕ)) → IsSetOf P xs → elements_in element (array (written xs)) ≡ Ok xs
  set_again [] h = absurd (omega (arith, h.set.some))
  set_again (x ∷ xs) h =
      ap (λ ds. elements_in element (array ds)) (more x xs)
      ∙ ap (elements_after element []) (sym (more x xs))
      ∙ elements_again [] (x ∷ xs) h.set.increasing h.each

-- ---- members in order

abbrev pub members_of : Entries → Members
members_of v.no_entries = no_members
members_of (v.entry name x es) = member name (value_data x) (members_of es)

abbrev pub onto : Members → Members → Members
onto no_members ns = ns
onto (member name d ms) ns = member name d (onto ms ns)

abbrev pub data_names : Members → List (List ℕ)
data_names no_members = []
data_names (member name d ms) = name ∷ data_names ms

onto_none : (ms : Members) → onto ms no_members ≡ ms
onto_none no_members = refl
onto_none (member name d ms) = ap (member name d) (onto_none ms)

onto_assoc : (ls ms ns : Members) → onto (onto ls ms) ns ≡ onto ls (onto ms ns)
onto_assoc no_members ms ns = refl
onto_assoc (member name d ls) ms ns = ap (member name d) (onto_assoc ls ms ns)

names-onto : (ms ns : Members) → data_names (onto ms ns) ≡ data_names ms ++ data_names ns
names-onto no_members ns = refl
names-onto (member name d ms) ns = ap (λ x. name ∷ x) (names-onto ms ns)

put_behind : (ms : Members) (name : List ℕ) (d : Data) → ((k : ℕ) → k < length (data_names ms) →
    order name (get_or (data_names ms) k []) ≡ Greater) → put name d ms ≡ onto ms (member name d no_members)
put_behind no_members name d below = refl
put_behind (member n e ms) name d below =
    rw (below 0 (omega arith)) (ap (member n e) (put_behind ms name d (λ k lt. below (suc k) (omega arith))))

pub in_order : (ms : Members) (es : Entries) → IsIncreasing (data_names ms ++ entry_names es) →
    with_entries ms es ≡ onto ms (members_of es)
in_order ms v.no_entries r = sym (onto_none ms)
in_order ms (v.entry name x es) r =
    let one : Members = member name (value_data x) no_members in
    let put_there : put name (value_data x) ms ≡ onto ms one =
    put_behind ms name (value_data x) (last_gap (data_names ms) name (entry_names es) r).below in
    let names : data_names (onto ms one) ++ entry_names es ≡ data_names ms ++ name ∷ entry_names es =
    ap (λ z. z ++ entry_names es) (names-onto ms one) ∙ append_assoc (data_names ms) (name ∷ []) (entry_names es) in
    ap (λ z. with_entries z es) put_there
    ∙ in_order (onto ms one) es (subst IsIncreasing (sym names) r)
    ∙ onto_assoc ms one (members_of es)

-- ---- values

mutual
  pub value_again : (left : ℕ) (x : Val) → IsLawful left x → value_in left (value_data x) ≡ Ok x
  value_again left (v.text x) h = refl
  value_again left (v.number x) h = ap (λ r. r >>= λ n. Ok (v.number n)) (number_again x h)
  value_again left (v.binary x) h = ap (λ r. r >>= λ b. Ok (v.binary b)) (binary_again x h)
  value_again left (v.boolean x) h = refl
  value_again left v.nothing h = refl
  value_again left (v.texts xs) h = ap (λ r. r >>= λ ys. Ok (v.texts ys)) (set_again text_in string strings refl
      (λ x xs. refl) IsUtf8 (λ x h. refl) xs h)
  value_again left (v.numbers xs) h = ap (λ r. r >>= λ ys. Ok (v.numbers ys)) (set_again number_text_in string strings
      refl (λ x xs. refl) IsNumberText number_text_again xs h)
  value_again left (v.binaries xs) h =
      ap (λ r. r >>= λ ys. Ok (v.binaries ys)) (set_again binary_in base64_text base64_texts refl (λ x xs. refl)
      AreBytes binary_again xs h)
  value_again zero (v.list xs) h = absurd h
  value_again (suc left) (v.list xs) h = ap (λ r. r >>= λ ys. Ok (v.list ys)) (vals_again left xs h)
  value_again zero (v.map es) h = absurd h
  value_again (suc left) (v.map es) h =
      ap (λ ms. entries_in left ms >>= λ ys. Ok (v.map ys)) (in_order no_members es h.0) ∙
      ap (λ r. r >>= λ ys. Ok (v.map ys)) (entries_again left es h.1)

  vals_again : (left : ℕ) (xs : Vals) → AreLawful left xs → values_in left (vals_data xs) ≡ Ok xs
  vals_again left v.no_vals h = refl
  vals_again left (v.val x xs) h = ap (λ r. then_val r (values_in left (vals_data xs))) (value_again left x h.0) ∙
      ap (then_val (Ok x)) (vals_again left xs h.1)

  entries_again : (left : ℕ) (es : Entries) → AreLawfulEntries left es → entries_in left (members_of es) ≡ Ok es
  entries_again left v.no_entries h = refl
  entries_again left (v.entry name x es) h = ap (λ r. then_entry name r (entries_in left (members_of es)))
      (value_again left x h.1) ∙ ap (then_entry name (Ok x)) (entries_again left es h.2)

-- ---- items

abbrev pub entries_seen : List (List ℕ × AttrValue) → Entries
entries_seen attributes = entries_of (map entry_view attributes)

same_members : (ms : Members) (attributes : List (List ℕ × AttrValue)) →
    with_members ms attributes ≡ with_entries ms (entries_seen attributes)
same_members ms [] = refl
same_members ms (a ∷ others) = same_members (put a.0 (value_data (view a.1)) ms) others

same_names : (attributes : List (List ℕ × AttrValue)) → entry_names (entries_seen attributes) ≡ names_of attributes
same_names [] = refl
same_names (a ∷ others) = ap (λ x. a.0 ∷ x) (same_names others)

attribute_again : (a : List ℕ × AttrValue) → IsLawfulAttribute a →
    attribute_in a.0 (value_data (view a.1)) ≡ Ok (view a.1)
attribute_again a h = rw h.name (value_again 32 (view a.1) h.value)

attributes_again : (attributes : List (List ℕ × AttrValue)) → All IsLawfulAttribute attributes →
    attributes_in (members_of (entries_seen attributes)) ≡ Ok (entries_seen attributes)
attributes_again [] h = refl
attributes_again (a ∷ others) h =
    ap (λ r. then_attribute a.0 r (attributes_in (members_of (entries_seen others))))
    (attribute_again a (All-head IsLawfulAttribute a others h))
    ∙ ap (then_attribute a.0 (Ok (view a.1))) (attributes_again others (All-tail IsLawfulAttribute a others h))

pub item_again : (attributes : List (List ℕ × AttrValue)) → IsLawfulItem attributes →
    item_in (item_data attributes) ≡ Ok (entries_of (map entry_view attributes))
item_again attributes h =
    ap attributes_in (same_members no_members attributes ∙
    in_order no_members (entries_seen attributes) (subst IsIncreasing (sym (same_names attributes)) h.increasing))
    ∙ attributes_again attributes h.each
