-- What a line of the script asks for (this project's own).
use Rattle.std.specs.Prelude.{◌≡◌, ℕ, ◌==◌, ◌&&◌, Bool, true, false, List, codes, Option, Some, None, is_some}
use Rattle.std.specs.Prelude.{option_map, Result, Ok, Err, if◌then◌else◌}
use Rattle.serde_json.specs.Data.{Data}
use Rattle.serde_json.specs.Find.{get, as_str}
use Rattle.dbe_values.specs.Val.{Val, Entries}
use Rattle.dbe_values.specs.View.{attr_of, attributes_of}
use Rattle.dbe_values.specs.declared.fault.ItemFault.{ItemFault}
use Rattle.dbe_values.specs.declared.fault.ItemFault.TheVariants.{NotObject, At}
use Rattle.dbe_values.specs.declared.key.KeyName.{KeyName}
use Rattle.dbe_values.specs.declared.key.KeySchema.{KeySchema}
use Rattle.dbe_values.specs.declared.key.KeyValue.{KeyValue}
use Rattle.dbe_values.specs.BranchIds.{is_branch_id}
use Rattle.dbe_values.specs.Items.{item_in}
use Rattle.dbe_values.specs.Json.{json_of, size_of}
use Rattle.dbe_values.specs.Keys.{row_key, is_lawful_key}
use Rattle.dbe_values.specs.Lawful.{IsLawfulItem}
use Rattle.dbe_values.specs.KeyValues.{key_view}
use Rattle.dbe_config.specs.Setting.{Setting}
use Rattle.dbe_config.specs.Rules.{is_empty_list}
use Rattle.dbe_lines.specs.Queries.{Faulty, has_form, asked_in}
use Rattle.dbe_lines.specs.declared.request.Query.{Query}
use Rattle.dbe_lines.specs.declared.request.Request.{Request}
use Rattle.dbe_lines.specs.declared.request.Request.TheVariants as r

-- an item that is put, or the first fault of the walk through it
abbrev pub put_in : Result Entries ItemFault → Request
put_in (Ok es) = r.Put (attributes_of es)
put_in (Err NotObject) = r.Shape
put_in (Err (At name why)) = r.Value name why

-- the key that values are
abbrev pub key_value : Val × Option Val → KeyValue
key_value k = record { partition = attr_of k.0; sort = option_map attr_of k.1 }

-- a request of a key, or the refusal of the first key attribute that is not lawful
abbrev pub with_key : (KeyValue → Request) → Result (Val × Option Val) (List ℕ) → Request
with_key make (Ok k) = make (key_value k)
with_key make (Err name) = r.Key name

-- a request of the key that an object holds, or the first fault of the walk through it
abbrev pub keyed_by : KeySchema → (KeyValue → Request) → Result Entries ItemFault → Request
keyed_by schema make (Ok es) = with_key make (row_key schema (attributes_of es))
keyed_by schema make (Err NotObject) = r.Shape
keyed_by schema make (Err (At name why)) = r.Value name why

-- an object has a member of this name
abbrev pub has_member : List ℕ → Data → Bool
has_member name d = is_some (get name d)

-- an object has as many members as there are key attributes, the sort key among them
abbrev pub has_sort : Option KeyName → Data → Bool
has_sort None d = size_of d == 1
has_sort (Some sort) d = size_of d == 2 && has_member sort.name d

-- an object with just the key attributes
abbrev pub is_key_object : KeySchema → Data → Bool
is_key_object schema d = has_member schema.partition.name d && has_sort schema.sort d

-- a request of a key that is spelled by an object
abbrev pub key_in : KeySchema → (KeyValue → Request) → Data → Request
key_in schema make d = if is_key_object schema d then keyed_by schema make (item_in d) else r.Shape

-- a request of a query, or its first fault
abbrev pub asked_by : (Query → Request) → Result Query Faulty → Request
asked_by make (Ok q) = make q
asked_by make (Err f) = r.Value f.0 f.1

-- a query, or what explains one; over a table with recipients neither is built yet
abbrev pub query_in : Setting → (Query → Request) → Data → Request
query_in st make d =
    if has_form d then (if is_empty_list st.recipients then asked_by make (asked_in d) else r.NotBuilt) else r.Shape

-- a text that is a branch id
abbrev pub is_id : Option (List ℕ) → Bool
is_id None = false
is_id (Some text) = is_branch_id text

-- a branch id
abbrev pub id_in : Data → Request
id_in d = if is_id (as_str d) then r.NotBuilt else r.Shape

-- the request of a member, where the object has it
abbrev pub or_other : Option Data → (Data → Request) → Request → Request
or_other None read other = other
or_other (Some d) read other = read d

-- an object with one member, which is one of the requests
abbrev pub request_in : Setting → Option Data → Request
request_in st None = r.NotJson
request_in st (Some d) =
    if size_of d == 1
    then or_other (get (codes "put") d) (λ item. put_in (item_in item))
    (or_other (get (codes "get") d) (key_in st.schema r.Get)
    (or_other (get (codes "query") d) (query_in st r.Query)
    (or_other (get (codes "check") d) (key_in st.schema r.Check)
    (or_other (get (codes "explain") d) (query_in st r.Explain)
    (or_other (get (codes "create") d) id_in
    (or_other (get (codes "rotate") d) id_in
    r.Shape))))))
    else r.Shape

-- what a line asks for
abbrev pub request_of : Setting → List ℕ → Request
request_of st line = request_in st (json_of line)

-- a key that is asked for is lawful
abbrev pub HasLawfulKey : Setting → Request → Type 0
HasLawfulKey st (r.Get key) = is_lawful_key st.schema (key_view key) ≡ true
HasLawfulKey st (r.Check key) = is_lawful_key st.schema (key_view key) ≡ true
HasLawfulKey st r.NotJson = Unit {0}
HasLawfulKey st r.Shape = Unit {0}
HasLawfulKey st (r.Value name why) = Unit {0}
HasLawfulKey st (r.Key name) = Unit {0}
HasLawfulKey st r.NotBuilt = Unit {0}
HasLawfulKey st (r.Put item) = Unit {0}
HasLawfulKey st (r.Query q) = Unit {0}
HasLawfulKey st (r.Explain q) = Unit {0}

-- an item that is put is lawful
abbrev pub HasLawfulItem : Request → Type 0
HasLawfulItem (r.Put item) = IsLawfulItem item
HasLawfulItem (r.Get key) = Unit {0}
HasLawfulItem (r.Check key) = Unit {0}
HasLawfulItem r.NotJson = Unit {0}
HasLawfulItem r.Shape = Unit {0}
HasLawfulItem (r.Value name why) = Unit {0}
HasLawfulItem (r.Key name) = Unit {0}
HasLawfulItem r.NotBuilt = Unit {0}
HasLawfulItem (r.Query q) = Unit {0}
HasLawfulItem (r.Explain q) = Unit {0}
