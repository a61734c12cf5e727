-- What is known of requests that were read.
use Rattle.std.proofs.Common.{◌≡◌, ℕ, true, List, Option, Some, None, Result, Ok, Err, refl, sym, ap, ◌∙◌, map}
use Rattle.std.proofs.Common.{if◌then◌else◌}
use Rattle.std.specs.Prelude.{option_map}
use Rattle.serde_json.specs.Data.{Data}
use Rattle.dbe_values.specs.Val.{Entries}
use Rattle.dbe_values.specs.View.{view, attr_of, entry_view, entries_of}
use Rattle.dbe_values.specs.Items.{GivesItem, item_in}
use Rattle.dbe_values.specs.Keys.{row_key}
use Rattle.dbe_values.specs.KeyValues.{key_view}
use Rattle.dbe_values.specs.declared.value.AttrValue.{AttrValue}
use Rattle.dbe_values.specs.declared.fault.ItemFault.{ItemFault}
use Rattle.dbe_values.specs.declared.fault.ItemFault.TheVariants.{NotObject, At}
use Rattle.dbe_values.specs.declared.fault.ValueFault.TheVariants as v
use Rattle.dbe_values.specs.declared.key.KeySchema.{KeySchema}
use Rattle.dbe_values.specs.declared.key.KeyValue.{KeyValue}
use Rattle.dbe_values.proofs.Unviewed.{attr_of-view, attributes_of-entries_of}
use Rattle.dbe_lines.specs.Requests.{put_in, keyed_by, with_key, key_value, is_key_object, key_in}
use Rattle.dbe_lines.specs.KeysRead.{IsFaultOf, fault_request}
use Rattle.dbe_lines.specs.declared.request.Request.{Request}
use Rattle.dbe_lines.specs.declared.request.Request.TheVariants as r

-- an item that was read is put
pub put_known : (item : List (List ℕ × AttrValue)) (read : Result Entries ItemFault) →
    read ≡ Ok (entries_of (map entry_view item)) → r.Put item ≡ put_in read
put_known item read is = sym (ap put_in is ∙ ap r.Put (attributes_of-entries_of item))

-- a fault that is told is the one that reading has
fault_is : (fault : ItemFault) (read : Result Entries ItemFault) (request : Request) → GivesItem (Err fault) read →
    IsFaultOf fault request → read ≡ Err fault
fault_is NotObject read request gives is = gives
fault_is (At name v.Memory) read request gives is = absurd is.0
fault_is (At name v.Shape) read request gives is = gives
fault_is (At name v.BadNumber) read request gives is = gives
fault_is (At name v.BadBase64) read request gives is = gives
fault_is (At name v.EmptySet) read request gives is = gives
fault_is (At name v.DoubledElement) read request gives is = gives
fault_is (At name v.TooDeep) read request gives is = gives
fault_is (At name v.BadName) read request gives is = gives

put_fault_is : (fault : ItemFault) → put_in (Err fault) ≡ fault_request fault
put_fault_is NotObject = refl
put_fault_is (At name why) = refl

pub put_refused : (fault : ItemFault) (read : Result Entries ItemFault) (request : Request) →
    GivesItem (Err fault) read → IsFaultOf fault request → request ≡ put_in read
put_refused fault read request gives is = is.1 ∙ sym (ap put_in (fault_is fault read request gives is) ∙
    put_fault_is fault)

key_fault_is : (schema : KeySchema) (make : KeyValue → Request) (fault : ItemFault) →
    keyed_by schema make (Err fault) ≡ fault_request fault
key_fault_is schema make NotObject = refl
key_fault_is schema make (At name why) = refl

pub key_refused : (schema : KeySchema) (make : KeyValue → Request) (fault : ItemFault)
    (read : Result Entries ItemFault) (request : Request) → GivesItem (Err fault) read → IsFaultOf fault request →
    request ≡ keyed_by schema make read
key_refused schema make fault read request gives is = is.1 ∙
    sym (ap (keyed_by schema make) (fault_is fault read request gives is) ∙ key_fault_is schema make fault)

-- a key that was read is the one that is asked for
sort_seen : (sort : Option AttrValue) → option_map attr_of (option_map view sort) ≡ sort
sort_seen None = refl
sort_seen (Some a) = ap Some (attr_of-view a)

pub key_seen : (k : KeyValue) → key_value (key_view k) ≡ k
key_seen k = rw (attr_of-view k.partition, sort_seen k.sort) refl

pub key_known : (schema : KeySchema) (make : KeyValue → Request) (item : List (List ℕ × AttrValue)) (k : KeyValue) →
    row_key schema item ≡ Ok (key_view k) → make k ≡ with_key make (row_key schema item)
key_known schema make item k has = sym (ap (with_key make) has ∙ ap make (key_seen k))

pub key_bad : (schema : KeySchema) (make : KeyValue → Request) (item : List (List ℕ × AttrValue)) (name : List ℕ) →
    row_key schema item ≡ Err name → r.Key name ≡ with_key make (row_key schema item)
key_bad schema make item name has = sym (ap (with_key make) has)

-- the key of an item that was read is that of the object
pub key_kept : (schema : KeySchema) (make : KeyValue → Request) (item : List (List ℕ × AttrValue))
    (read : Result Entries ItemFault) (request : Request) → read ≡ Ok (entries_of (map entry_view item)) →
    request ≡ with_key make (row_key schema item) → request ≡ keyed_by schema make read
key_kept schema make item read request is has =
    has ∙ sym (ap (keyed_by schema make) is ∙
    ap (λ i. with_key make (row_key schema i)) (attributes_of-entries_of item))

pub key_made : (schema : KeySchema) (make : KeyValue → Request) (d : Data) (item : List (List ℕ × AttrValue))
    (request : Request) → is_key_object schema d ≡ true → item_in d ≡ Ok (entries_of (map entry_view item)) →
    request ≡ with_key make (row_key schema item) → request ≡ key_in schema make d
key_made schema make d item request is_key is has =
    key_kept schema make item (item_in d) request is has ∙
    sym (ap (λ t. if t then keyed_by schema make (item_in d) else r.Shape) is_key)
