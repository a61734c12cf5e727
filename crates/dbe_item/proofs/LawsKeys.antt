-- A row opens to an item of its own key.
use Rattle.std.proofs.Common.{◌≡◌, ℕ, Bool, true, false, List, Option, Some, None, refl, sym, ap, ◌∙◌, subst}
use Rattle.std.specs.Prelude.{is_ok, IfSome}
use Rattle.dbe_values.specs.Attributes.{value_at}
use Rattle.dbe_values.specs.Keys.{lawful, with_sort, sort_found, partition_found, row_key, key_of, key_or_none, has_key}
use Rattle.dbe_values.specs.Lawful.{IsLawfulItem}
use Rattle.dbe_values.specs.Val.{Val}
use Rattle.dbe_values.specs.declared.key.KeyName.{KeyName}
use Rattle.dbe_values.specs.declared.key.KeySchema.{KeySchema}
use Rattle.dbe_values.specs.declared.value.AttrValue.{AttrValue}
use Rattle.dbe_config.specs.Rules.{is_empty_list}
use Rattle.dbe_config.specs.Setting.{Setting}
use Rattle.dbe_frame.specs.Signed.{signed_names}
use Rattle.dbe_frame.proofs.Names.{names_strict}
use Rattle.dbe_item.specs.Names.{number_of, strip}
use Rattle.dbe_item.specs.Opens.{ValueOpens, Opens, OpensBy, OpensSealed, legend_of, opened_names, opened_root}
use Rattle.dbe_item.proofs.LawsNames.{has_byte, unmarked, signed_there, has_value, value_stripped}
use Rattle.dbe_item.proofs.LawsFields.{opens_at}

abbrev Attribute : Type 0
Attribute = List ℕ × AttrValue

-- ---- rows with the same values at the names of keys

abbrev HasSameSort : List Attribute → List Attribute → Option KeyName → Type 0
HasSameSort a b sort = IfSome sort (λ key. value_at key.name a ≡ value_at key.name b)

same_sort : (p : Val) (a b : List Attribute) (sort : Option KeyName) → HasSameSort a b sort →
    with_sort p a sort ≡ with_sort p b sort
same_sort p a b None e = refl
same_sort p a b (Some key) e = ap (λ v. sort_found p key.name (lawful 1024 key.kind v)) e

same_partition : (schema : KeySchema) (a b : List Attribute) (p : Option Val) → HasSameSort a b schema.sort →
    partition_found schema a p ≡ partition_found schema b p
same_partition schema a b None e = refl
same_partition schema a b (Some p) e = same_sort p a b schema.sort e

same_key : (schema : KeySchema) (a b : List Attribute) →
    value_at schema.partition.name a ≡ value_at schema.partition.name b → HasSameSort a b schema.sort →
    row_key schema a ≡ row_key schema b
same_key schema a b e sort =
    ap (λ v. partition_found schema a (lawful 2048 schema.partition.kind v)) e
    ∙ same_partition schema a b (lawful 2048 schema.partition.kind (value_at schema.partition.name b)) sort

-- ---- what a row opens to

module _ (c : Setting) (row item : List Attribute) (i : ℕ) (rows : IsLawfulItem row)
    (o : OpensSealed c row item i) where
  -- an attribute that is signed only stays
  stays : (x : List ℕ) → legend_of c row o.by.header x ≡ 115 → value_at x item ≡ value_at x row
  stays x e =
      let h = o.by.header in
      let names = signed_names c row in
      let there = signed_there c row x (has_byte x names h.legend o.signed.found.framed.legend e) in
      let clear = unmarked x names h.legend (names_strict c row rows) e in
      let stored = has_value x row there.named in
      let at = opens_at c (opened_root o.by) (opened_names c row h) x (strip row) item stored.0 o.attributes
      (value_stripped x row there.unreserved ∙ stored.1) in
      let opens : ValueOpens false c (opened_root o.by) (number_of x (opened_names c row h)) x stored.0 at.value =
      subst (λ b. ValueOpens b c (opened_root o.by) (number_of x (opened_names c row h)) x stored.0 at.value) clear
      at.opens in
      at.is ∙ ap (λ (v : AttrValue). Some v) opens ∙ sym stored.1

  sort_stays : (sort : Option KeyName) → IfSome sort (λ key. legend_of c row o.by.header key.name ≡ 115) →
      HasSameSort item row sort
  sort_stays None e = tt
  sort_stays (Some key) e = stays key.name e

  sealed_key : row_key c.schema item ≡ row_key c.schema row
  sealed_key =
      let key = o.signed.found.framed.key in
      same_key c.schema item row (stays c.schema.partition.name key.partition) (sort_stays c.schema.sort key.sort)

key_by : (plain : Bool) (c : Setting) (row item : List Attribute) (i : ℕ) → IsLawfulItem row →
    OpensBy plain c row item i → row_key c.schema item ≡ row_key c.schema row
key_by true c row item i rows o = ap (row_key c.schema) o.0
key_by false c row item i rows o = sealed_key c row item i rows o

module _ (c : Setting) (row item : List Attribute) (i : ℕ) (rows : IsLawfulItem row) (o : Opens c row item i) where
  one_key : row_key c.schema item ≡ row_key c.schema row
  one_key = key_by (is_empty_list c.recipients) c row item i rows o

  pub opens_key : key_of c.schema item ≡ key_of c.schema row
  opens_key = ap key_or_none one_key

  pub opens_has_key : has_key c.schema item ≡ has_key c.schema row
  opens_has_key = ap is_ok one_key

  pub opens_lawful : is_empty_list c.recipients ≡ false → has_key c.schema item ≡ true
  opens_lawful recipients =
      let sealed = subst (λ plain. OpensBy plain c row item i) recipients o in
      opens_has_key ∙ sealed.signed.found.framed.key.lawful
