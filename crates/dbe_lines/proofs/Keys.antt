-- Keys that are asked for are lawful.
use Rattle.std.proofs.Common.{◌≡◌, ℕ, ◌&&◌, ◌==◌, Bool, true, false, if◌then◌else◌, List, codes, Option, Some, None}
use Rattle.std.proofs.Common.{Result, Ok, Err, IfOk, refl, sym, ap, ◌∙◌, subst}
use Rattle.std.specs.Prelude.{option_map}
use Rattle.serde_json.specs.Data.{Data}
use Rattle.serde_json.specs.Find.{get, as_str}
use Rattle.dbe_values.specs.Val.{Val, Entries}
use Rattle.dbe_values.specs.View.{view, attr_of, attributes_of}
use Rattle.dbe_values.specs.Items.{item_in}
use Rattle.dbe_values.specs.Json.{size_of}
use Rattle.dbe_values.specs.Keys.{fits_key, lawful, part_of, sort_found, with_sort, partition_found, row_key}
use Rattle.dbe_values.specs.Keys.{fits_sort, is_lawful_key}
use Rattle.dbe_values.specs.KeyValues.{key_view}
use Rattle.dbe_values.specs.declared.value.AttrValue.{AttrValue}
use Rattle.dbe_values.specs.declared.fault.ItemFault.{ItemFault}
use Rattle.dbe_values.specs.declared.fault.ItemFault.TheVariants.{NotObject, At}
use Rattle.dbe_values.specs.declared.key.KeyKind.{KeyKind}
use Rattle.dbe_values.specs.declared.key.KeyName.{KeyName}
use Rattle.dbe_values.specs.declared.key.KeySchema.{KeySchema}
use Rattle.dbe_values.specs.declared.key.KeyValue.{KeyValue}
use Rattle.dbe_values.proofs.Unviewed.{view-attr_of}
use Rattle.dbe_config.specs.Setting.{Setting}
use Rattle.dbe_config.specs.Rules.{is_empty_list}
use Rattle.dbe_lines.specs.Queries.{Faulty, has_form, asked_in}
use Rattle.dbe_lines.specs.Requests.{put_in, key_value, with_key, keyed_by, is_key_object, key_in, asked_by, is_id}
use Rattle.dbe_lines.specs.Requests.{or_other, request_in, HasLawfulKey}
use Rattle.dbe_lines.specs.declared.request.Query.{Query}
use Rattle.dbe_lines.specs.declared.request.Request.{Request}
use Rattle.dbe_lines.specs.declared.request.Request.TheVariants as r

-- ---- a key that was read is lawful

fits_if : (most : ℕ) (kind : KeyKind) (w v : Val) (t : Bool) → fits_key most kind w ≡ t →
    (if t then Some w else None) ≡ Some v → fits_key most kind v ≡ true
fits_if most kind w v true fits is = let same : w ≡ v = cc in subst (λ x. fits_key most kind x ≡ true) same fits
fits_if most kind w v false fits is = absurd (cc)

fits_found : (most : ℕ) (kind : KeyKind) (o : Option AttrValue) (v : Val) → lawful most kind o ≡ Some v →
    fits_key most kind v ≡ true
fits_found most kind None v is = absurd (cc)
fits_found most kind (Some a) v is = fits_if most kind (view a) v (fits_key most kind (view a)) refl is

both_true : (a b : Bool) → a ≡ true → b ≡ true → a && b ≡ true
both_true a b p q = rw (p, q) refl

sort_lawful : (schema : KeySchema) (sort : KeyName) (p : Val) (o : Option AttrValue) (found : Option Val) (k : Val ×
    Option Val) → schema.sort ≡ Some sort → lawful 1024 sort.kind o ≡ found →
    fits_key 2048 schema.partition.kind p ≡ true → sort_found p sort.name found ≡ Ok k → is_lawful_key schema k ≡ true
sort_lawful schema sort p o None k is_sort is fits read = absurd (cc)
sort_lawful schema sort p o (Some s) k is_sort is fits read =
    let same : (p, Some s) ≡ k = cc in
    subst (λ x. is_lawful_key schema x ≡ true) same (both_true _ _ fits (ap (λ n. fits_sort n (Some s)) is_sort ∙
    fits_found 1024 sort.kind o s is))

with_lawful : (schema : KeySchema) (row : List (List ℕ × AttrValue)) (sort : Option KeyName) (p : Val) (k : Val ×
    Option Val) → schema.sort ≡ sort → fits_key 2048 schema.partition.kind p ≡ true → with_sort p row sort ≡ Ok k →
    is_lawful_key schema k ≡ true
with_lawful schema row None p k is_sort fits read =
    let same : (p, None) ≡ k = cc in
    subst (λ x. is_lawful_key schema x ≡ true) same (both_true _ _ fits (ap (λ n. fits_sort n None) is_sort))
with_lawful schema row (Some sort) p k is_sort fits read = sort_lawful schema sort p _ (part_of 1024 sort row) k
    is_sort refl fits read

partition_lawful : (schema : KeySchema) (row : List (List ℕ × AttrValue)) (o : Option AttrValue) (found : Option Val)
    (k : Val × Option Val) → lawful 2048 schema.partition.kind o ≡ found → partition_found schema row found ≡ Ok k →
    is_lawful_key schema k ≡ true
partition_lawful schema row o None k is read = absurd (cc)
partition_lawful schema row o (Some p) k is read =
    with_lawful schema row schema.sort p k refl (fits_found 2048 schema.partition.kind o p is) read

pub read_key_lawful : (schema : KeySchema) (row : List (List ℕ × AttrValue)) (k : Val × Option Val) →
    row_key schema row ≡ Ok k → is_lawful_key schema k ≡ true
read_key_lawful schema row k read = partition_lawful schema row _ (part_of 2048 schema.partition row) k refl read

-- ---- so is each key that is asked for

sort_same : (s : Option Val) → option_map view (option_map attr_of s) ≡ s
sort_same None = refl
sort_same (Some v) = ap Some (view-attr_of v)

key_same : (k : Val × Option Val) → key_view (key_value k) ≡ k
key_same (p, s) = rw (view-attr_of p, sort_same s) refl

abbrev Lawful : KeySchema → KeyValue → Type 0
Lawful schema key = is_lawful_key schema (key_view key) ≡ true

made_lawful : (schema : KeySchema) (k : Val × Option Val) → is_lawful_key schema k ≡ true → Lawful schema (key_value k)
made_lawful schema k is = subst (λ x. is_lawful_key schema x ≡ true) (sym (key_same k)) is

module _ (st : Setting) (make : KeyValue → Request) (each : (key : KeyValue) → Lawful st.schema key →
    HasLawfulKey st (make key)) where
  with_is : (row : List (List ℕ × AttrValue)) (read : Result (Val × Option Val) (List ℕ)) →
      row_key st.schema row ≡ read → HasLawfulKey st (with_key make read)
  with_is row (Ok k) is = each (key_value k) (made_lawful st.schema k (read_key_lawful st.schema row k is))
  with_is row (Err name) is = tt

  keyed_is : (read : Result Entries ItemFault) → HasLawfulKey st (keyed_by st.schema make read)
  keyed_is (Ok es) = with_is (attributes_of es) (row_key st.schema (attributes_of es)) refl
  keyed_is (Err NotObject) = tt
  keyed_is (Err (At name why)) = tt

  if_key : (t : Bool) (read : Result Entries ItemFault) →
      HasLawfulKey st (if t then keyed_by st.schema make read else r.Shape)
  if_key true read = keyed_is read
  if_key false read = tt

  key_is : (d : Data) → HasLawfulKey st (key_in st.schema make d)
  key_is d = if_key (is_key_object st.schema d) (item_in d)

put_is : (st : Setting) (read : Result Entries ItemFault) → HasLawfulKey st (put_in read)
put_is st (Ok es) = tt
put_is st (Err NotObject) = tt
put_is st (Err (At name why)) = tt

module _ (st : Setting) (make : Query → Request) (each : (q : Query) → HasLawfulKey st (make q)) where
  asked_is : (read : Result Query Faulty) → HasLawfulKey st (asked_by make read)
  asked_is (Ok q) = each q
  asked_is (Err f) = tt

  if_asked : (t p : Bool) (read : Result Query Faulty) →
      HasLawfulKey st (if t then (if p then asked_by make read else r.NotBuilt) else r.Shape)
  if_asked true true read = asked_is read
  if_asked true false read = tt
  if_asked false p read = tt

if_built : (st : Setting) (t : Bool) → HasLawfulKey st (if t then r.NotBuilt else r.Shape)
if_built st true = tt
if_built st false = tt

or_is : (st : Setting) (o : Option Data) (read : Data → Request) (other : Request) →
    ((d : Data) → HasLawfulKey st (read d)) → HasLawfulKey st other → HasLawfulKey st (or_other o read other)
or_is st None read other here there = there
or_is st (Some d) read other here there = here d

if_one : (st : Setting) (t : Bool) (request : Request) → HasLawfulKey st request →
    HasLawfulKey st (if t then request else r.Shape)
if_one st true request is = is
if_one st false request is = tt

in_is : (st : Setting) (d : Option Data) → HasLawfulKey st (request_in st d)
in_is st None = tt
in_is st (Some d) = if_one st (size_of d == 1) _
    (or_is st (get (codes "put") d) _ _ (λ item. put_is st (item_in item))
    (or_is st (get (codes "get") d) _ _ (key_is st r.Get (λ key is. is))
    (or_is st (get (codes "query") d) _ _ (λ q. if_asked st r.Query (λ q. tt) (has_form q)
    (is_empty_list st.recipients) (asked_in q))
    (or_is st (get (codes "check") d) _ _ (key_is st r.Check (λ key is. is))
    (or_is st (get (codes "explain") d) _ _ (λ q. if_asked st r.Explain (λ q. tt) (has_form q)
    (is_empty_list st.recipients) (asked_in q))
    (or_is st (get (codes "create") d) _ _ (λ id. if_built st (is_id (as_str id)))
    (or_is st (get (codes "rotate") d) _ _ (λ id. if_built st (is_id (as_str id))) tt)))))))

-- a request that was read
pub read_lawful : {E : Type 0} (st : Setting) (d : Option Data) (result : Result Request E) →
    IfOk result (λ request. request ≡ request_in st d) → IfOk result (HasLawfulKey st)
read_lawful st d (Ok request) is = subst (HasLawfulKey st) (sym is) (in_is st d)
read_lawful st d (Err fault) is = tt
