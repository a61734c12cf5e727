-- Lawful keys that are equal are one key.
use Rattle.std.proofs.Common.{◌≡◌, ◌∙◌, ℕ, ◌&&◌, Bool, true, false, List, Option, Some, None, refl, sym, ap, subst}
use Rattle.std.proofs.Common.{Ordering, Less, Equal, Greater}
use Rattle.std.specs.Ordering.{ordering_then}
use Rattle.std.specs.Option.{option_cmp}
use Rattle.std.proofs.lemmas.Map.Lookups.{exact_bytes, exact_signed}
use Rattle.dbe_num.specs.Decimal.{Decimal, IsNormal, units}
use Rattle.dbe_values.specs.Val as v
use Rattle.dbe_values.specs.Val.{Val}
use Rattle.dbe_values.specs.declared.key.KeyKind.{KeyKind}
use Rattle.dbe_values.specs.declared.key.KeyKind.TheVariants as kind
use Rattle.dbe_values.specs.declared.key.KeyName.{KeyName}
use Rattle.dbe_values.specs.declared.key.KeySchema.{KeySchema}
use Rattle.dbe_values.specs.Keys.{fits_key, fits_sort, is_lawful_key, key_order, value_order}
use Rattle.dbe_table.specs.InMemory.{IsNormalValue, IsNormalSort, IsNormalKey}

-- ---- keys that are equal are one key

no : false ≡ true → ⊥
no h = (cc)

less : Less ≡ Equal → ⊥
less h = (cc)

greater : Greater ≡ Equal → ⊥
greater h = (cc)

then_equal : (r s : Ordering) → ordering_then r s ≡ Equal → (r ≡ Equal) × (s ≡ Equal)
then_equal Less s h = absurd (less h)
then_equal Equal s h = (refl, h)
then_equal Greater s h = absurd (greater h)

-- numbers of one value are one number
abbrev pub OneNumber : Type 0
OneNumber = (a b : Decimal) → IsNormal a → IsNormal b → units a ≡ units b → a ≡ b

-- the value that a key of a type has
is_text : (most : ℕ) (a : Val) → fits_key most kind.S a ≡ true → (x : List ℕ) × (a ≡ v.text x)
is_text most (v.text x) h = (x, refl)
is_text most (v.number x) h = absurd (no h)
is_text most (v.binary x) h = absurd (no h)
is_text most (v.boolean x) h = absurd (no h)
is_text most v.nothing h = absurd (no h)
is_text most (v.texts x) h = absurd (no h)
is_text most (v.numbers x) h = absurd (no h)
is_text most (v.binaries x) h = absurd (no h)
is_text most (v.list x) h = absurd (no h)
is_text most (v.map x) h = absurd (no h)

is_number : (most : ℕ) (a : Val) → fits_key most kind.N a ≡ true → (x : Decimal) × (a ≡ v.number x)
is_number most (v.text x) h = absurd (no h)
is_number most (v.number x) h = (x, refl)
is_number most (v.binary x) h = absurd (no h)
is_number most (v.boolean x) h = absurd (no h)
is_number most v.nothing h = absurd (no h)
is_number most (v.texts x) h = absurd (no h)
is_number most (v.numbers x) h = absurd (no h)
is_number most (v.binaries x) h = absurd (no h)
is_number most (v.list x) h = absurd (no h)
is_number most (v.map x) h = absurd (no h)

is_binary : (most : ℕ) (a : Val) → fits_key most kind.B a ≡ true → (x : List ℕ) × (a ≡ v.binary x)
is_binary most (v.text x) h = absurd (no h)
is_binary most (v.number x) h = absurd (no h)
is_binary most (v.binary x) h = (x, refl)
is_binary most (v.boolean x) h = absurd (no h)
is_binary most v.nothing h = absurd (no h)
is_binary most (v.texts x) h = absurd (no h)
is_binary most (v.numbers x) h = absurd (no h)
is_binary most (v.binaries x) h = absurd (no h)
is_binary most (v.list x) h = absurd (no h)
is_binary most (v.map x) h = absurd (no h)

same_texts : (x y : List ℕ) → value_order (v.text x) (v.text y) ≡ Equal → v.text x ≡ v.text y
same_texts x y h = ap v.text (exact_bytes x y (then_equal _ _ h).0)

same_binaries : (x y : List ℕ) → value_order (v.binary x) (v.binary y) ≡ Equal → v.binary x ≡ v.binary y
same_binaries x y h = ap v.binary (exact_bytes x y (then_equal _ _ h).0)

same_numbers : OneNumber → (x y : Decimal) → IsNormal x → IsNormal y → value_order (v.number x) (v.number y) ≡ Equal →
    v.number x ≡ v.number y
same_numbers one x y p q h = ap v.number (one x y p q (exact_signed (units x) (units y) h))

same_value : OneNumber → (most : ℕ) (k : KeyKind) (a b : Val) → fits_key most k a ≡ true → fits_key most k b ≡ true →
    IsNormalValue a → IsNormalValue b → value_order a b ≡ Equal → a ≡ b
same_value one most kind.S a b f g p q h =
    let x = is_text most a f in
    let y = is_text most b g in
    x.1 ∙ same_texts x.0 y.0 (sym (ap (λ u. value_order u b) x.1 ∙ ap (value_order (v.text x.0)) y.1) ∙ h) ∙ sym y.1
same_value one most kind.N a b f g p q h =
    let x = is_number most a f in
    let y = is_number most b g in
    x.1 ∙ same_numbers one x.0 y.0 (subst IsNormalValue x.1 p) (subst IsNormalValue y.1 q)
    (sym (ap (λ u. value_order u b) x.1 ∙ ap (value_order (v.number x.0)) y.1) ∙ h) ∙ sym y.1
same_value one most kind.B a b f g p q h =
    let x = is_binary most a f in
    let y = is_binary most b g in
    x.1 ∙ same_binaries x.0 y.0 (sym (ap (λ u. value_order u b) x.1 ∙ ap (value_order (v.binary x.0)) y.1) ∙ h) ∙
    sym y.1

same_sort : OneNumber → (name : Option KeyName) (s t : Option Val) → fits_sort name s ≡ true →
    fits_sort name t ≡ true → IsNormalSort s → IsNormalSort t → option_cmp value_order s t ≡ Equal → s ≡ t
same_sort one None None None f g p q h = refl
same_sort one None None (Some t) f g p q h = absurd (no g)
same_sort one None (Some s) t f g p q h = absurd (no f)
same_sort one (Some name) None t f g p q h = absurd (no f)
same_sort one (Some name) (Some s) None f g p q h = absurd (no g)
same_sort one (Some name) (Some s) (Some t) f g p q h = ap Some (same_value one 1024 name.kind s t f g p q h)

and_true : (s t : Bool) → (s && t) ≡ true → (s ≡ true) × (t ≡ true)
and_true true t h = (refl, h)
and_true false true h = (h, refl)
and_true false false h = (h, h)

pub same_key : OneNumber → (schema : KeySchema) (j k : Val × Option Val) → is_lawful_key schema j ≡ true →
    is_lawful_key schema k ≡ true → IsNormalKey j → IsNormalKey k → key_order j k ≡ Equal → j ≡ k
same_key one schema j k f g p q h =
    let lawful = and_true (fits_key 2048 schema.partition.kind j.0) (fits_sort schema.sort j.1) f in
    let lawful_k = and_true (fits_key 2048 schema.partition.kind k.0) (fits_sort schema.sort k.1) g in
    let both = then_equal (value_order j.0 k.0) (option_cmp value_order j.1 k.1) h in
    let first : j.0 ≡ k.0 = same_value one 2048 schema.partition.kind j.0 k.0 lawful.0 lawful_k.0 p.0 q.0 both.0 in
    let second : j.1 ≡ k.1 = same_sort one schema.sort j.1 k.1 lawful.1 lawful_k.1 p.1 q.1 both.1 in
    ap (λ a. (a, j.1)) first ∙ ap (λ b. (k.0, b)) second
