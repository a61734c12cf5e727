-- The attributes, the names and the key of a sealed row.
use Rattle.std.proofs.Common.{◌≡◌, ℕ, Bool, true, false, not, ◌||◌, cond, List, [], ◌∷◌, map, filter, Option, Some}
use Rattle.std.proofs.Common.{None, IfSome}
use Rattle.std.proofs.Common.{bytes_eq, refl, sym, ap, ◌∙◌, subst}
use Rattle.std.specs.List.{AllByRecursion, list_any}
use Rattle.std.proofs.lemmas.Slice.Eq.{bytes_eq-Decides}
use Rattle.dbe_values.specs.Attributes.{value_at}
use Rattle.dbe_values.specs.Lawful.{names_of}
use Rattle.dbe_values.specs.View.{view}
use Rattle.dbe_values.specs.declared.key.KeyName.{KeyName}
use Rattle.dbe_values.specs.declared.key.KeySchema.{KeySchema}
use Rattle.dbe_values.specs.declared.value.AttrValue.{AttrValue, B}
use Rattle.dbe_canon.specs.Path.{path_of}
use Rattle.dbe_config.specs.Setting.{Setting}
use Rattle.dbe_config.specs.Actions.{is_reserved, is_key, is_sort, is_encrypted, is_do_nothing, is_unsigned, action_for}
use Rattle.dbe_config.specs.Actions.{action_at, has_prefix, or_unsigned}
use Rattle.dbe_config.specs.declared.action.Action.{Action}
use Rattle.dbe_config.specs.declared.action.Action.TheVariants as action
use Rattle.dbe_itemkeys.specs.Field.{sealed_field}
use Rattle.dbe_frame.specs.Signed.{name_below, signed_names}
use Rattle.dbe_frame.specs.Sorted.{insert_by, in_order}
use Rattle.dbe_item.specs.Names.{is_encrypted_name, number_of}
use Rattle.dbe_item.specs.Sealed.{sealed_attribute}
use Rattle.dbe_item.proofs.SealsPut.{Attribute, same_bytes}
use Rattle.dbe_item.proofs.SealsFields.{sealed_name, among_kept, apart_kept}
use Rattle.dbe_item.proofs.SealsAccepted.{IsAccepted, has_partition, has_sort, holds_there, all_listed, any_order}

-- ---- the names of keys

or_true : (b d : Bool) → d ≡ true → (b || d) ≡ true
or_true true d e = refl
or_true false d e = e

pub partition_is_key : (schema : KeySchema) → is_key schema.partition.name schema ≡ true
partition_is_key schema =
    ap (λ b. b || is_sort schema.partition.name schema.sort) (same_bytes schema.partition.name)

sort_by : (p : List ℕ) (sort : Option KeyName) → IfSome sort (λ s. (bytes_eq p s.name || is_sort s.name sort) ≡ true)
sort_by p None = tt
sort_by p (Some s) = or_true (bytes_eq p s.name) (bytes_eq s.name s.name) (same_bytes s.name)

pub sort_is_key : (schema : KeySchema) → IfSome schema.sort (λ s. is_key s.name schema ≡ true)
sort_is_key schema = sort_by schema.partition.name schema.sort

pub both_some : (sort : Option KeyName) (P Q R : KeyName → Type 0) → ((s : KeyName) → P s → Q s → R s) →
    IfSome sort P → IfSome sort Q → IfSome sort R
both_some None P Q R f p q = tt
both_some (Some s) P Q R f p q = f s p q

module _ (c : Setting) where
  -- a key is not encrypted
  pub key_clear : (name : List ℕ) → is_key name c.schema ≡ true → is_encrypted_name c name ≡ false
  key_clear name e = ap (λ b. is_encrypted (cond b (Some action.SignOnly) (or_unsigned (action_at name c.actions)
      (has_prefix c.unsigned_prefix name)))) e

  -- a signed name
  abbrev pub is_signed : List ℕ → Bool
  is_signed name = not (is_unsigned c.schema c.actions c.unsigned_prefix name)

  signed_by : (a r : Bool) → a ≡ false → r ≡ false → not (a || r) ≡ true
  signed_by false false e f = refl
  signed_by true r e f = absurd cc
  signed_by false true e f = absurd cc

  pub key_signed : (name : List ℕ) → is_key name c.schema ≡ true → is_reserved name ≡ false → is_signed name ≡ true
  key_signed name e f =
      let kept : is_do_nothing (action_for c.schema c.actions c.unsigned_prefix name) ≡ false =
      ap (λ b. is_do_nothing (cond b (Some action.SignOnly) (or_unsigned (action_at name c.actions)
      (has_prefix c.unsigned_prefix name)))) e in
      signed_by (is_do_nothing (action_for c.schema c.actions c.unsigned_prefix name)) (is_reserved name) kept f

  kept_by : (o : Option Action) → is_encrypted o ≡ true → is_do_nothing o ≡ false
  kept_by None e = absurd cc
  kept_by (Some action.EncryptAndSign) e = refl
  kept_by (Some action.SignOnly) e = absurd cc
  kept_by (Some action.DoNothing) e = absurd cc

  pub encrypted_signed : (name : List ℕ) → is_encrypted_name c name ≡ true → is_reserved name ≡ false →
      is_signed name ≡ true
  encrypted_signed name e f =
      let o = action_for c.schema c.actions c.unsigned_prefix name in
      signed_by (is_do_nothing o) (is_reserved name) (kept_by o e) f

  reserved_by : (a r : Bool) → r ≡ true → not (a || r) ≡ false
  reserved_by true r e = refl
  reserved_by false true e = refl
  reserved_by false false e = absurd cc

  pub reserved_unsigned : (name : List ℕ) → is_reserved name ≡ true → is_signed name ≡ false
  reserved_unsigned name e =
      reserved_by (is_do_nothing (action_for c.schema c.actions c.unsigned_prefix name)) (is_reserved name) e

-- ---- sealed attributes

module _ (c : Setting) (root : List ℕ) (names : List (List ℕ)) where
  abbrev sealed : List Attribute → List Attribute
  sealed item = map (sealed_attribute c root names) item

  pub all_sealed : (P : List ℕ → Type 0) (item : List Attribute) → AllByRecursion (λ (a : Attribute). P a.0) item →
      AllByRecursion (λ (a : Attribute). P a.0) (map (sealed_attribute c root names) item)
  all_sealed P [] h = tt
  all_sealed P (a ∷ item) h = (subst P (sym (sealed_name c root names a)) h.0, all_sealed P item h.1)

  abbrev by : Bool → Attribute → Attribute
  by b a = cond b (a.0, B (sealed_field root (number_of a.0 names) (path_of c.table a.0) (view a.1))) a

  module _ (name : List ℕ) (clear : is_encrypted_name c name ≡ false) where
    value_step : (a : Attribute) (b t : Bool) (u v : Option AttrValue) → is_encrypted_name c a.0 ≡ b →
        bytes_eq a.0 name ≡ t → u ≡ v →
        cond (bytes_eq (by b a).0 name) (Some (by b a).1) u ≡ cond (bytes_eq a.0 name) (Some a.1) v
    value_step a false t u v e same r = ap (λ o. cond (bytes_eq a.0 name) (Some a.1) o) r
    value_step a true false u v e same r = rw same r
    value_step a true true u v e same r =
        let is : a.0 ≡ name = (bytes_eq-Decides a.0 name).0 same in
        let wrong : true ≡ false = sym e ∙ ap (is_encrypted_name c) is ∙ clear in absurd cc

    -- a name that is not encrypted has its value
    pub value_sealed : (item : List Attribute) →
        value_at name (map (sealed_attribute c root names) item) ≡ value_at name item
    value_sealed [] = refl
    value_sealed (a ∷ item) =
        value_step a (is_encrypted_name c a.0) (bytes_eq a.0 name) (value_at name (sealed item)) (value_at name item)
        refl refl (value_sealed item)

-- ---- what a test keeps

all_step : (b : Bool) (a : Attribute) (xs ys : List Attribute) → b ≡ true → xs ≡ ys → cond b (a ∷ xs) xs ≡ a ∷ ys
all_step true a xs ys e r = ap (λ zs. a ∷ zs) r
all_step false a xs ys e r = absurd cc

-- a test that all pass keeps all
pub keeps_all : (test : Attribute → Bool) (xs : List Attribute) → AllByRecursion (λ (a : Attribute). test a ≡ true) xs →
    filter test xs ≡ xs
keeps_all test [] h = refl
keeps_all test (a ∷ xs) h = all_step (test a) a (filter test xs) xs h.0 (keeps_all test xs h.1)

module _ (P : List ℕ → Type 0) where
  kept_step : (b : Bool) (x : List ℕ) (xs : List (List ℕ)) → P x → AllByRecursion P xs →
      AllByRecursion P (cond b (x ∷ xs) xs)
  kept_step true x xs p h = (p, h)
  kept_step false x xs p h = h

  pub all_kept : (test : List ℕ → Bool) (xs : List (List ℕ)) → AllByRecursion P xs → AllByRecursion P (filter test xs)
  all_kept test [] h = tt
  all_kept test (x ∷ xs) h = kept_step (test x) x (filter test xs) h.0 (all_kept test xs h.1)

  module _ (below : List ℕ → List ℕ → Bool) where
    insert_step : (b : Bool) (x y : List ℕ) (ys zs : List (List ℕ)) → P x → AllByRecursion P (y ∷ ys) →
        AllByRecursion P zs → AllByRecursion P (cond b (y ∷ zs) (x ∷ y ∷ ys))
    insert_step true x y ys zs p h r = (h.0, r)
    insert_step false x y ys zs p h r = (p, h)

    all_insert : (x : List ℕ) (ys : List (List ℕ)) → P x → AllByRecursion P ys →
        AllByRecursion P (insert_by below x ys)
    all_insert x [] p h = (p, tt)
    all_insert x (y ∷ ys) p h = insert_step (below y x) x y ys (insert_by below x ys) p h (all_insert x ys p h.1)

    pub all_order : (xs : List (List ℕ)) → AllByRecursion P xs → AllByRecursion P (in_order below xs)
    unfolding in_order
    all_order [] h = tt
    all_order (x ∷ xs) h = all_insert x (in_order below xs) h.0 (all_order xs h.1)

  pub all_names : (item : List Attribute) → AllByRecursion (λ (a : Attribute). P a.0) item →
      AllByRecursion P (names_of item)
  all_names [] h = tt
  all_names (a ∷ item) h = (h.0, all_names item h.1)

-- ---- the signed names of an item that may be stored

module _ (c : Setting) (item : List Attribute) (accepted : IsAccepted c item) where
  pub signed_unreserved : AllByRecursion (λ name. is_reserved name ≡ false) (signed_names c item)
  signed_unreserved =
      let P : List ℕ → Type 0 = λ name. is_reserved name ≡ false in
      all_order P name_below (filter (is_signed c) (names_of item))
      (all_kept P (is_signed c) (names_of item) (all_names P item accepted.unreserved))

  -- a name of the item that is signed is among the signed ones
  pub among_signed : (name : List ℕ) → list_any (bytes_eq name) (names_of item) ≡ true → is_signed c name ≡ true →
      list_any (bytes_eq name) (signed_names c item) ≡ true
  among_signed name there signed =
      any_order name_below (bytes_eq name) (filter (is_signed c) (names_of item))
      ∙ among_kept (is_signed c) name (names_of item) signed there

  -- the encrypted names are those that the configuration encrypts
  among_by : (name : List ℕ) (b : Bool) → is_encrypted_name c name ≡ b →
      list_any (bytes_eq name) (names_of item) ≡ true → is_reserved name ≡ false →
      list_any (bytes_eq name) (filter (is_encrypted_name c) (signed_names c item)) ≡ b
  among_by name true e there clear =
      among_kept (is_encrypted_name c) name (signed_names c item) e
      (among_signed name there (encrypted_signed c name e clear))
  among_by name false e there clear = apart_kept (is_encrypted_name c) name (signed_names c item) e

  among_all : (xs : List Attribute) →
      AllByRecursion (λ (a : Attribute). list_any (bytes_eq a.0) (names_of item) ≡ true) xs →
      AllByRecursion (λ (a : Attribute). is_reserved a.0 ≡ false) xs →
      AllByRecursion (λ (a : Attribute). list_any (bytes_eq a.0) (filter (is_encrypted_name c) (signed_names c item))
      ≡ is_encrypted_name c a.0) xs
  among_all [] there clear = tt
  among_all (a ∷ xs) there clear =
      (among_by a.0 (is_encrypted_name c a.0) refl there.0 clear.0, among_all xs there.1 clear.1)

  pub among_encrypted :
      AllByRecursion (λ (a : Attribute). list_any (bytes_eq a.0) (filter (is_encrypted_name c) (signed_names c item))
      ≡ is_encrypted_name c a.0) item
  among_encrypted = among_all item (all_listed item) accepted.unreserved

  -- ---- its key

  -- a key that the item has
  pub record IsKeyThere (name : List ℕ) : Type 0 where
    pub unreserved : is_reserved name ≡ false
    pub clear : is_encrypted_name c name ≡ false
    pub listed : list_any (bytes_eq name) (signed_names c item) ≡ true

  key_there : (name : List ℕ) → is_key name c.schema ≡ true → (value_at name item ≡ None → ⊥) → IsKeyThere name
  key_there name key some =
      let unreserved : is_reserved name ≡ false =
      holds_there (λ n. is_reserved n ≡ false) name item some accepted.unreserved in
      let there : list_any (bytes_eq name) (names_of item) ≡ true =
      holds_there (λ n. list_any (bytes_eq n) (names_of item) ≡ true) name item some (all_listed item) in
      record {
        unreserved = unreserved;
        clear = key_clear c name key;
        listed = among_signed name there (key_signed c name key unreserved);
      }

  pub partition_there : IsKeyThere c.schema.partition.name
  partition_there = key_there c.schema.partition.name (partition_is_key c.schema)
      (has_partition c.schema item accepted.keyed)

  pub sort_there : IfSome c.schema.sort (λ s. IsKeyThere s.name)
  sort_there = both_some c.schema.sort (λ s. is_key s.name c.schema ≡ true) (λ s. value_at s.name item ≡ None → ⊥)
      (λ s. IsKeyThere s.name) (λ s key some. key_there s.name key some) (sort_is_key c.schema)
      (has_sort c.schema item accepted.keyed)
