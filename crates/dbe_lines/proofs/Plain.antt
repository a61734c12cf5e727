-- Queries are over tables without recipients.
use Rattle.std.proofs.Common.{◌≡◌, ℕ, ◌==◌, Bool, true, false, if◌then◌else◌, List, codes, Option, Some, None}
use Rattle.std.proofs.Common.{Result, Ok, Err, refl, subst}
use Rattle.serde_json.specs.Data.{Data}
use Rattle.serde_json.specs.Find.{get, as_str}
use Rattle.dbe_values.specs.Val.{Val, Entries}
use Rattle.dbe_values.specs.View.{attributes_of}
use Rattle.dbe_values.specs.Items.{item_in}
use Rattle.dbe_values.specs.Json.{json_of, size_of}
use Rattle.dbe_values.specs.Keys.{row_key}
use Rattle.dbe_values.specs.declared.fault.ItemFault.{ItemFault}
use Rattle.dbe_values.specs.declared.fault.ItemFault.TheVariants.{NotObject, At}
use Rattle.dbe_values.specs.declared.key.KeySchema.{KeySchema}
use Rattle.dbe_values.specs.declared.key.KeyValue.{KeyValue}
use Rattle.dbe_config.specs.Setting.{Setting}
use Rattle.dbe_config.specs.Rules.{is_empty_list}
use Rattle.dbe_lines.specs.Queries.{Faulty, has_form, asked_in}
use Rattle.dbe_lines.specs.Requests.{put_in, with_key, keyed_by, is_key_object, key_in, asked_by, is_id}
use Rattle.dbe_lines.specs.Requests.{or_other, request_in, request_of}
use Rattle.dbe_lines.specs.declared.request.Query.{Query}
use Rattle.dbe_lines.specs.declared.request.Request.{Request}
use Rattle.dbe_lines.specs.declared.request.Request.TheVariants as r

-- a request that asks the table by a condition only where this is
abbrev AsksIf : Type 0 → Request → Type 0
AsksIf A (r.Query q) = A
AsksIf A (r.Explain q) = A
AsksIf A r.NotJson = Unit {0}
AsksIf A r.Shape = Unit {0}
AsksIf A (r.Value name why) = Unit {0}
AsksIf A (r.Key name) = Unit {0}
AsksIf A r.NotBuilt = Unit {0}
AsksIf A (r.Put item) = Unit {0}
AsksIf A (r.Get key) = Unit {0}
AsksIf A (r.Check key) = Unit {0}

module _ (A : Type 0) where
  put_asks : (read : Result Entries ItemFault) → AsksIf A (put_in read)
  put_asks (Ok es) = tt
  put_asks (Err NotObject) = tt
  put_asks (Err (At name why)) = tt

  asked_asks : (make : Query → Request) (read : Result Query Faulty) → ((q : Query) → AsksIf A (make q)) →
      AsksIf A (asked_by make read)
  asked_asks make (Ok q) each = each q
  asked_asks make (Err f) each = tt

  built_asks : (t : Bool) → AsksIf A (if t then r.NotBuilt else r.Shape)
  built_asks true = tt
  built_asks false = tt

  or_asks : (o : Option Data) (read : Data → Request) (other : Request) →
      ((d : Data) → AsksIf A (read d)) → AsksIf A other → AsksIf A (or_other o read other)
  or_asks None read other here there = there
  or_asks (Some d) read other here there = here d

  one_asks : (t : Bool) (request : Request) → AsksIf A request → AsksIf A (if t then request else r.Shape)
  one_asks true request is = is
  one_asks false request is = tt

module _ (A : Type 0) (schema : KeySchema) (make : KeyValue → Request) (each : (k : KeyValue) → AsksIf A (make k)) where
  with_asks : (read : Result (Val × Option Val) (List ℕ)) → AsksIf A (with_key make read)
  with_asks (Ok k) = each _
  with_asks (Err name) = tt

  keyed_asks : (read : Result Entries ItemFault) → AsksIf A (keyed_by schema make read)
  keyed_asks (Ok es) = with_asks (row_key schema (attributes_of es))
  keyed_asks (Err NotObject) = tt
  keyed_asks (Err (At name why)) = tt

  if_keyed : (t : Bool) (read : Result Entries ItemFault) →
      AsksIf A (if t then keyed_by schema make read else r.Shape)
  if_keyed true read = keyed_asks read
  if_keyed false read = tt

  key_asks : (d : Data) → AsksIf A (key_in schema make d)
  key_asks d = if_keyed (is_key_object schema d) (item_in d)

query_asks : (make : Query → Request) (t p : Bool) (read : Result Query Faulty) →
    ((q : Query) → p ≡ true → AsksIf (p ≡ true) (make q)) →
    AsksIf (p ≡ true) (if t then (if p then asked_by make read else r.NotBuilt) else r.Shape)
query_asks make true true read each = asked_asks (true ≡ true) make read (λ q. each q refl)
query_asks make true false read each = tt
query_asks make false p read each = tt

in_asks : (st : Setting) (d : Option Data) → AsksIf (is_empty_list st.recipients ≡ true) (request_in st d)
in_asks st None = tt
in_asks st (Some d) =
    let A = is_empty_list st.recipients ≡ true in
    one_asks A (size_of d == 1) _
    (or_asks A (get (codes "put") d) _ _ (λ item. put_asks A (item_in item))
    (or_asks A (get (codes "get") d) _ _ (key_asks A st.schema r.Get (λ key. tt))
    (or_asks A (get (codes "query") d) _ _
    (λ q. query_asks r.Query (has_form q) (is_empty_list st.recipients) (asked_in q) (λ q is. is))
    (or_asks A (get (codes "check") d) _ _ (key_asks A st.schema r.Check (λ key. tt))
    (or_asks A (get (codes "explain") d) _ _
    (λ q. query_asks r.Explain (has_form q) (is_empty_list st.recipients) (asked_in q) (λ q is. is))
    (or_asks A (get (codes "create") d) _ _ (λ id. built_asks A (is_id (as_str id)))
    (or_asks A (get (codes "rotate") d) _ _ (λ id. built_asks A (is_id (as_str id))) tt)))))))

-- a line that is a query
pub query_is_plain : (st : Setting) (line : List ℕ) (q : Query) → request_of st line ≡ r.Query q →
    is_empty_list st.recipients ≡ true
query_is_plain st line q is = subst (AsksIf (is_empty_list st.recipients ≡ true)) is (in_asks st (json_of line))

-- a line that explains one
pub explain_is_plain : (st : Setting) (line : List ℕ) (q : Query) → request_of st line ≡ r.Explain q →
    is_empty_list st.recipients ≡ true
explain_is_plain st line q is = subst (AsksIf (is_empty_list st.recipients ≡ true)) is (in_asks st (json_of line))
