-- What is printed has no float.
use Rattle.std.proofs.Common.{◌≡◌, ℕ, Bool, true, false, ◌||◌, List, [], ◌∷◌, Ordering, Less, Equal, Greater, nat_cmp}
use Rattle.std.proofs.Common.{refl}
use Rattle.std.specs.Ordering.{match_ordering}
use Rattle.std.specs.Cmp.Lexicographic.{slice_cmp}
use Rattle.serde_json.specs.Data.{Data, Members, object, string, no_members, member, put}
use Rattle.serde_json.specs.Written.{has_float, members_have_float}
use Rattle.dbe_values.specs.declared.value.AttrValue.{AttrValue}
use Rattle.dbe_values.specs.Writing.{item_data}
use Rattle.dbe_values.proofs.NoFloats.{item_has_no_float}
use Rattle.dbe_values.specs.declared.key.KeySchema.{KeySchema}
use Rattle.dbe_values.specs.declared.key.KeyValue.{KeyValue}
use Rattle.dbe_lines.specs.Texts.{with_names, names_data, condition_data, key_attributes, key_data}

neither : (s t : Bool) → s ≡ false → t ≡ false → (s || t) ≡ false
neither s t p q = rw (p, q) refl

-- an item's line has no float
pub no_float_item : (name : List ℕ) (item : List (List ℕ × AttrValue)) →
    has_float (object (member name (item_data item) no_members)) ≡ false
no_float_item name item = neither _ _ (item_has_no_float (item_data item) item refl) refl

by_order : (o : Ordering) (a b c : Members) → members_have_float a ≡ false → members_have_float b ≡ false →
    members_have_float c ≡ false → members_have_float (match_ordering o a b c) ≡ false
by_order Less a b c h k l = h
by_order Equal a b c h k l = k
by_order Greater a b c h k l = l

parts : (a b : Bool) → a || b ≡ false → (a ≡ false) × (b ≡ false)
parts true b h = absurd (cc)
parts false b h = (refl, h)

put_none : (k text : List ℕ) (ms : Members) → members_have_float ms ≡ false →
    members_have_float (put k (string text) ms) ≡ false
put_none k text no_members h = refl
put_none k text (member l e ms) h =
    let both = parts (has_float e) (members_have_float ms) h in
    by_order (slice_cmp nat_cmp k l) (member k (string text) (member l e ms)) (member l (string text) ms)
    (member l e (put k (string text) ms)) h both.1
    (neither (has_float e) (members_have_float (put k (string text) ms)) both.0 (put_none k text ms both.1))

names_none : (ms : Members) (names : List (List ℕ × List ℕ)) → members_have_float ms ≡ false →
    members_have_float (with_names ms names) ≡ false
names_none ms [] h = h
names_none ms (e ∷ es) h = names_none (put e.0 (string e.1) ms) es (put_none e.0 e.1 ms h)

-- nor has a printed condition
pub no_float_condition : (text : List ℕ) (names : List (List ℕ × List ℕ)) (values : List (List ℕ × AttrValue)) →
    has_float (condition_data text names values) ≡ false
no_float_condition text names values = neither (has_float (names_data names)) _ (names_none no_members names refl)
    (neither (has_float (item_data values)) false (item_has_no_float (item_data values) values refl) refl)

-- nor has the key of a row
pub no_float_key : (schema : KeySchema) (key : KeyValue) (d : Data) → d ≡ key_data schema key → has_float d ≡ false
no_float_key schema key d is = item_has_no_float d (key_attributes schema key) is
