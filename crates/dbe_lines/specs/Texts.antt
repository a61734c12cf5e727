-- What is written for a request. Each text is compact JSON with a newline behind it (this project's own).
use Rattle.std.specs.Prelude.{ℕ, nat_lt, Bool, true, List, [], ◌∷◌, ◌++◌, codes, length, Option, Some, None}
use Rattle.std.specs.List.{flat_map}
use Rattle.serde_json.specs.Data.{Data, null, boolean, number, unsigned, string, object, Members, no_members, member}
use Rattle.serde_json.specs.Data.{put}
use Rattle.serde_json.specs.Written.{compact_text}
use Rattle.dbe_values.specs.declared.value.AttrValue.{AttrValue}
use Rattle.dbe_values.specs.declared.fault.ValueFault.{ValueFault}
use Rattle.dbe_values.specs.declared.fault.ValueFault.TheVariants as v
use Rattle.dbe_values.specs.declared.key.KeyName.{KeyName}
use Rattle.dbe_values.specs.declared.key.KeySchema.{KeySchema}
use Rattle.dbe_values.specs.declared.key.KeyValue.{KeyValue}
use Rattle.dbe_values.specs.Writing.{item_data}
use Rattle.dbe_item.specs.declared.fault.PutFault.{PutFault}
use Rattle.dbe_item.specs.declared.fault.PutFault.TheVariants as p
use Rattle.dbe_item.specs.declared.open_fault.OpenFault.{OpenFault}
use Rattle.dbe_item.specs.declared.open_fault.OpenFault.TheVariants as o
use Rattle.dbe_cond.specs.declared.fault.CondFault.{CondFault}
use Rattle.dbe_cond.specs.declared.fault.CondFault.TheVariants as c
use Rattle.dbe_lines.specs.declared.fault.RewriteFault.{RewriteFault}
use Rattle.dbe_lines.specs.declared.fault.RewriteFault.TheVariants.{NotSearchable}

-- a JSON value in a line of its own
abbrev pub line_of : Data → List ℕ
line_of d = compact_text d ++ 10 ∷ []

-- {"ok":"put"}
abbrev pub put_text : List ℕ
put_text = line_of (object (member (codes "ok") (string (codes "put")) no_members))

-- {"none":true}
abbrev pub none_text : List ℕ
none_text = line_of (object (member (codes "none") (boolean true) no_members))

-- {"item":item}
abbrev pub item_text : List (List ℕ × AttrValue) → List ℕ
item_text item = line_of (object (member (codes "item") (item_data item) no_members))

-- the place of the encrypted data key that opened a row, or none
abbrev pub recipient_data : Option ℕ → Data
recipient_data None = null
recipient_data (Some at) = number (unsigned at)

-- {"beacons":beacons,"encrypted":encrypted,"recipient":recipient,"signed":signed}
abbrev pub checked_data : Bool → ℕ → Option ℕ → ℕ → Data
checked_data beacons encrypted recipient signed =
    object (member (codes "beacons") (boolean beacons) (member (codes "encrypted") (number (unsigned encrypted))
    (member (codes "recipient") (recipient_data recipient) (member (codes "signed") (number (unsigned signed))
    no_members))))

-- {"checked":{"beacons":beacons,"encrypted":encrypted,"recipient":recipient,"signed":signed}}
abbrev pub checked_text : Bool → ℕ → Option ℕ → ℕ → List ℕ
checked_text beacons encrypted recipient signed =
    line_of (object (member (codes "checked") (checked_data beacons encrypted recipient signed) no_members))

-- {"count":count,"scanned":scanned}
abbrev pub count_text : ℕ → ℕ → List ℕ
count_text count scanned =
    line_of (object (member (codes "count") (number (unsigned count)) (member (codes "scanned")
    (number (unsigned scanned)) no_members)))

-- a line for each item, and the line that counts them and the rows that were handed out
abbrev pub select_text : List (List (List ℕ × AttrValue)) → ℕ → List ℕ
select_text items scanned = flat_map item_text items ++ count_text (length items) scanned

-- {"refused":why}
abbrev pub refused_text : List ℕ → List ℕ
refused_text why = line_of (object (member (codes "refused") (string why) no_members))

-- {"name":name,"refused":why}
abbrev pub refused_name : List ℕ → List ℕ → List ℕ
refused_name why name =
    line_of (object (member (codes "name") (string name) (member (codes "refused") (string why) no_members)))

-- the members that a refusal for a reason ends with
abbrev pub reason : List ℕ → List ℕ → Members
reason refused why = member (codes "refused") (string refused) (member (codes "why") (string why) no_members)

-- {"refused":refused,"why":why}
abbrev pub refused_for : List ℕ → List ℕ → List ℕ
refused_for refused why = line_of (object (reason refused why))

-- {"name":name,"refused":refused,"why":why}
abbrev pub refused_name_for : List ℕ → List ℕ → List ℕ → List ℕ
refused_name_for refused why name = line_of (object (member (codes "name") (string name) (reason refused why)))

-- {"at":at,"refused":refused,"why":why}
abbrev pub refused_at : List ℕ → List ℕ → ℕ → List ℕ
refused_at refused why at = line_of (object (member (codes "at") (number (unsigned at)) (reason refused why)))

-- {"beacon":name,"part":part,"refused":"split"}
abbrev pub split_text : List ℕ × List ℕ → List ℕ
split_text at =
    line_of (object (member (codes "beacon") (string at.0) (member (codes "part") (string at.1)
    (member (codes "refused") (string (codes "split")) no_members))))

-- {"every":true}
abbrev pub every_text : List ℕ
every_text = line_of (object (member (codes "every") (boolean true) no_members))

-- members with those of names put among them
abbrev pub with_names : Members → List (List ℕ × List ℕ) → Members
with_names ms [] = ms
with_names ms (e ∷ es) = with_names (put e.0 (string e.1) ms) es

-- an object of names, each under its placeholder
abbrev pub names_data : List (List ℕ × List ℕ) → Data
names_data names = object (with_names no_members names)

-- {"condition":text,"names":names,"values":values}; values stand under their placeholders as those of an item under
-- its names
abbrev pub condition_data : List ℕ → List (List ℕ × List ℕ) → List (List ℕ × AttrValue) → Data
condition_data text names values =
    object (member (codes "condition") (string text) (member (codes "names") (names_data names)
    (member (codes "values") (item_data values) no_members)))

abbrev pub condition_text : List ℕ → List (List ℕ × List ℕ) → List (List ℕ × AttrValue) → List ℕ
condition_text text names values = line_of (condition_data text names values)

-- the words for faults of values
abbrev pub value_word : ValueFault → List ℕ
value_word v.Shape = codes "Shape"
value_word v.BadNumber = codes "BadNumber"
value_word v.BadBase64 = codes "BadBase64"
value_word v.EmptySet = codes "EmptySet"
value_word v.DoubledElement = codes "DoubledElement"
value_word v.TooDeep = codes "TooDeep"
value_word v.BadName = codes "BadName"
value_word v.Memory = codes "Memory"

-- the refusal of a put; out of memory has none
abbrev pub put_refusal : PutFault → List ℕ
put_refusal (p.Key name) = refused_name (codes "key") name
put_refusal (p.Reserved name) = refused_name (codes "reserved") name
put_refusal (p.Unknown name) = refused_name (codes "attribute") name
put_refusal p.TooMany = refused_text (codes "attributes")
put_refusal p.Size = refused_text (codes "size")
put_refusal p.Memory = []

-- the refusal of a condition; out of memory has none
abbrev pub cond_refusal : CondFault → List ℕ
cond_refusal c.TooLong = refused_for (codes "condition") (codes "TooLong")
cond_refusal (c.BadToken at) = refused_at (codes "condition") (codes "BadToken") at
cond_refusal c.TooDeep = refused_for (codes "condition") (codes "TooDeep")
cond_refusal (c.Syntax at) = refused_at (codes "condition") (codes "Syntax") at
cond_refusal c.TooManyOperands = refused_for (codes "condition") (codes "TooManyOperands")
cond_refusal (c.UnknownName name) = refused_name_for (codes "condition") (codes "UnknownName") name
cond_refusal (c.UnknownValue name) = refused_name_for (codes "condition") (codes "UnknownValue") name
cond_refusal c.Memory = []

-- the refusal of a condition for which the table is not asked
abbrev pub rewrite_refusal : RewriteFault → List ℕ
rewrite_refusal (NotSearchable name) = refused_name_for (codes "rewriting") (codes "NotSearchable") name

-- the sort key as an attribute, where there is one
abbrev pub sort_attribute : Option KeyName → Option AttrValue → List (List ℕ × AttrValue)
sort_attribute None value = []
sort_attribute (Some sort) None = []
sort_attribute (Some sort) (Some value) = (sort.name, value) ∷ []

-- the key attributes of a row, as an item
abbrev pub key_attributes : KeySchema → KeyValue → List (List ℕ × AttrValue)
key_attributes schema key = (schema.partition.name, key.partition) ∷ sort_attribute schema.sort key.sort

-- {name:value} of the partition key, and of the sort key where there is one
abbrev pub key_data : KeySchema → KeyValue → Data
key_data schema key = item_data (key_attributes schema key)

-- {"key":key,"refused":"item","why":why}
abbrev pub item_for : Data → List ℕ → List ℕ
item_for key why = line_of (object (member (codes "key") key (reason (codes "item") why)))

-- {"at":at,"key":key,"refused":"item","why":why}
abbrev pub item_at : Data → List ℕ → ℕ → List ℕ
item_at key why at =
    line_of (object (member (codes "at") (number (unsigned at)) (member (codes "key") key
    (reason (codes "item") why))))

-- {"key":key,"name":name,"refused":"item","why":why}
abbrev pub item_name_for : Data → List ℕ → List ℕ → List ℕ
item_name_for key why name =
    line_of (object (member (codes "key") key (member (codes "name") (string name) (reason (codes "item") why))))

-- the refusal of the row of a key that does not open; out of memory has none
abbrev pub item_refusal : KeySchema → KeyValue → OpenFault → List ℕ
item_refusal schema key o.NoHeader = item_for (key_data schema key) (codes "NoHeader")
item_refusal schema key (o.HeaderFault at) = item_at (key_data schema key) (codes "HeaderFault") at
item_refusal schema key o.LegendLength = item_for (key_data schema key) (codes "LegendLength")
item_refusal schema key o.KeyLegend = item_for (key_data schema key) (codes "KeyLegend")
item_refusal schema key o.FooterLength = item_for (key_data schema key) (codes "FooterLength")
item_refusal schema key o.NoRecipient = item_for (key_data schema key) (codes "NoRecipient")
item_refusal schema key o.Commitment = item_for (key_data schema key) (codes "Commitment")
item_refusal schema key o.RecipientTag = item_for (key_data schema key) (codes "RecipientTag")
item_refusal schema key (o.FieldShape name) = item_name_for (key_data schema key) (codes "FieldShape") name
item_refusal schema key (o.FieldTag name) = item_name_for (key_data schema key) (codes "FieldTag") name
item_refusal schema key (o.NotCanonical name) = item_name_for (key_data schema key) (codes "NotCanonical") name
item_refusal schema key o.Memory = []

-- a row whose text as compact JSON has more than 4 MiB
abbrev pub is_large_row : List (List ℕ × AttrValue) → Bool
is_large_row row = nat_lt 4194304 (length (compact_text (item_data row)))
