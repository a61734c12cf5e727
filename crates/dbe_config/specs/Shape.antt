-- What the members of a configuration spell (this project's own). None stands for every fault of form.
use Rattle.std.specs.Prelude.{ℕ, suc, ◌+◌, ◌==◌, ◌&&◌, Bool, true, false, List, [], ◌∷◌, length, map, nat_lt, nat_le}
use Rattle.std.specs.Prelude.{codes, bytes_eq, Option, Some, None, option_map, option_and_then, if◌then◌else◌}
use Rattle.std.specs.Ordering.{nat_cmp}
use Rattle.std.specs.Cmp.Lexicographic.{slice_cmp}
use Rattle.std.specs.BTreeMap.{insert_entry}
use Rattle.std.specs.Result.{result_ok}
use Rattle.serde_json.specs.Data.{Num, unsigned, negative, float, Data, Members, no_members, member}
use Rattle.serde_json.specs.Find.{get, as_str, as_object, as_number}
use Rattle.hex.specs.Hex.{decode_sized}
use Rattle.dbe_values.specs.declared.key.KeyKind.{KeyKind}
use Rattle.dbe_values.specs.declared.key.KeyKind.TheVariants as kind
use Rattle.dbe_values.specs.declared.key.KeyName.{KeyName}
use Rattle.dbe_values.specs.declared.key.KeySchema.{KeySchema}
use Rattle.dbe_values.specs.Json.{size_of}
use Rattle.dbe_values.specs.BranchIds.{is_branch_id}
use Rattle.dbe_config.specs.declared.action.Action.{Action}
use Rattle.dbe_config.specs.declared.action.Action.TheVariants as action
use Rattle.dbe_config.specs.declared.context_pair.ContextPair.{ContextPair}
use Rattle.dbe_config.specs.declared.recipient.Recipient.{Recipient}
use Rattle.dbe_config.specs.declared.recipient.Recipient.TheVariants as recipient
use Rattle.dbe_config.specs.declared.virtual_field.Virtual.{Virtual}
use Rattle.dbe_config.specs.declared.virtual_field.VirtualPart.{VirtualPart}
use Rattle.dbe_config.specs.declared.text_step.TextStep.{TextStep}
use Rattle.dbe_config.specs.declared.standard.Standard.{Standard}
use Rattle.dbe_config.specs.declared.compound.Compound.{Compound}
use Rattle.dbe_config.specs.declared.compound.Part.{Part}
use Rattle.dbe_config.specs.declared.constructor.Constructor.{Constructor}
use Rattle.dbe_config.specs.declared.constructor.ConstructorPart.{ConstructorPart}
use Rattle.dbe_config.specs.declared.entry.Entry.{Entry}
use Rattle.dbe_config.specs.Setting.{Setting}
use Rattle.dbe_config.specs.Spelling.{any_text_in, text_in, text_of, optional, bool_in, with_first, array_of, list_in}
use Rattle.dbe_config.specs.Spelling.{list_or_none}
use Rattle.dbe_config.specs.Steps.{step_in}

-- ---- keys

-- the three types of keys
abbrev pub kind_of : List ℕ → Option KeyKind
kind_of word =
    if bytes_eq word (codes "S") then Some kind.S
    else (if bytes_eq word (codes "N") then Some kind.N
    else (if bytes_eq word (codes "B") then Some kind.B
    else None))

abbrev pub key_by : Option (List ℕ) → Option KeyKind → Option KeyName
key_by None k = None
key_by (Some name) None = None
key_by (Some name) (Some k) = Some (record { name = name; kind = k })

-- a name of 1 to 245 bytes and its type
abbrev pub key_in : Data → Option KeyName
key_in d = if size_of d == 2 then key_by (text_in 1 245 (get (codes "name") d)) (option_and_then kind_of
    (any_text_in (get (codes "type") d))) else None

abbrev pub schema_by : Option KeyName → Option (Option KeyName) → Option KeySchema
schema_by None s = None
schema_by (Some p) None = None
schema_by (Some p) (Some s) = Some (record { partition = p; sort = s })

abbrev pub schema_in : Data → Option KeySchema
schema_in d = schema_by (option_and_then key_in (get (codes "partition") d)) (optional key_in (get (codes "sort") d))

-- ---- actions

-- the three action words
abbrev pub action_of : List ℕ → Option Action
action_of word =
    if bytes_eq word (codes "ENCRYPT_AND_SIGN") then Some action.EncryptAndSign
    else (if bytes_eq word (codes "SIGN_ONLY") then Some action.SignOnly
    else (if bytes_eq word (codes "DO_NOTHING") then Some action.DoNothing
    else None))

-- the action of a listed name, which has 1 to 245 bytes
abbrev pub listed_action : List ℕ → Option (List ℕ) → Option Action
listed_action name None = None
listed_action name (Some word) = if nat_lt 0 (length name) && nat_le (length name) 245 then action_of word else None

-- the listed names, each put at its place in the order of names
abbrev pub actions_in : List (List ℕ × Action) → Members → Option (List (List ℕ × Action))
actions_in found no_members = Some found
actions_in found (member name d ms) = option_and_then (λ a. actions_in (insert_entry (slice_cmp nat_cmp) found name a)
    ms) (listed_action name (as_str d))

-- at most 1,000 names
abbrev pub listed_in : Option Data → Option (List (List ℕ × Action))
listed_in None = None
listed_in (Some d) = if nat_le (size_of d) 1000 then option_and_then (actions_in []) (as_object d) else None

-- ---- context

-- a key of 1 to 255 bytes and a value of at most 1,024
abbrev pub pair_of : List ℕ → Option (List ℕ) → Option ContextPair
pair_of key None = None
pair_of key (Some value) = if nat_lt 0 (length key) && nat_le (length key) 255 then Some (record {
  key = key;
  value =
      value;
}) else None

-- the pairs of an object, whose members are in order of names
abbrev pub pairs_in : Members → Option (List ContextPair)
pairs_in no_members = Some []
pairs_in (member key d ms) = with_first (pair_of key (text_of 0 1024 (as_str d))) (pairs_in ms)

-- at most 32 pairs
abbrev pub context_in : Option Data → Option (List ContextPair)
context_in None = Some []
context_in (Some d) = if nat_le (size_of d) 32 then option_and_then pairs_in (as_object d) else None

-- ---- recipients

-- any namespace but the one that branch rings use
abbrev pub namespace_of : Option (List ℕ) → Option (List ℕ)
namespace_of None = None
namespace_of (Some t) = if bytes_eq t (codes "dbe-hierarchy") then None else Some t

-- 32 bytes, as 64 hexadecimal digits
abbrev pub key_bytes_of : List ℕ → Option (List ℕ)
key_bytes_of t = result_ok (decode_sized t 32)

abbrev pub raw_by : Option (List ℕ) → Option (List ℕ) → Option (List ℕ) → Option Recipient
raw_by None name key = None
raw_by (Some namespace) None key = None
raw_by (Some namespace) (Some name) None = None
raw_by (Some namespace) (Some name) (Some key) = Some (recipient.Raw namespace name key)

abbrev pub raw_in : Data → Option Recipient
raw_in d =
    if size_of d == 4
    then raw_by (namespace_of (text_in 1 255 (get (codes "namespace") d))) (text_in 1 255 (get (codes "name") d))
    (option_and_then key_bytes_of (any_text_in (get (codes "key") d)))
    else None

abbrev pub branch_id_of : List ℕ → Option (List ℕ)
branch_id_of t = if is_branch_id t then Some t else None

abbrev pub branch_id_in : Data → Option (List ℕ)
branch_id_in d = option_and_then branch_id_of (as_str d)

abbrev pub branch_by : Option (List ℕ) → Option Recipient
branch_by None = None
branch_by (Some id) = Some (recipient.Branch id)

abbrev pub branch_in : Data → Option Recipient
branch_in d = if size_of d == 2 then branch_by (option_and_then branch_id_in (get (codes "branch") d)) else None

abbrev pub recipient_by : Option (List ℕ) → Data → Option Recipient
recipient_by None d = None
recipient_by (Some word) d =
    if bytes_eq word (codes "raw") then raw_in d
    else (if bytes_eq word (codes "branch") then branch_in d
    else None)

abbrev pub recipient_in : Data → Option Recipient
recipient_in d = recipient_by (any_text_in (get (codes "kind") d)) d

-- ---- virtual fields

abbrev pub virtual_part_by : Option (List ℕ) → Option (List TextStep) → Option VirtualPart
virtual_part_by None steps = None
virtual_part_by (Some from) None = None
virtual_part_by (Some from) (Some steps) = Some (record { from = from; steps = steps })

abbrev pub virtual_part_in : Data → Option VirtualPart
virtual_part_in d = if size_of d == 2 then virtual_part_by (any_text_in (get (codes "from") d))
    (list_in 16 step_in (get (codes "steps") d)) else None

-- at least one part
abbrev pub virtual_by : Option (List ℕ) → Option (List VirtualPart) → Option Virtual
virtual_by None parts = None
virtual_by (Some name) None = None
virtual_by (Some name) (Some []) = None
virtual_by (Some name) (Some (p ∷ ps)) = Some (record { name = name; parts = p ∷ ps })

abbrev pub virtual_in : Data → Option Virtual
virtual_in d = if size_of d == 2 then virtual_by (text_in 1 245 (get (codes "name") d)) (list_in 16 virtual_part_in
    (get (codes "parts") d)) else None

-- ---- standard beacons

-- The length of a hash, or 0 where the whole number is not from 1 to 63.
abbrev pub length_of : Num → Option ℕ
length_of (unsigned n) = if nat_le 1 n && nat_le n 63 then Some n else Some 0
length_of (negative z) = Some 0
length_of (float x) = None

abbrev pub length_in : Option Data → Option ℕ
length_in o = option_and_then length_of (option_and_then as_number o)

abbrev pub standard_by : Option (List ℕ) → Option ℕ → Option Standard
standard_by None l = None
standard_by (Some name) None = None
standard_by (Some name) (Some l) = Some (record { name = name; length = l })

abbrev pub standard_in : Data → Option Standard
standard_in d = if size_of d == 2 then standard_by (any_text_in (get (codes "name") d))
    (length_in (get (codes "length") d)) else None

-- ---- compounds

-- The split character, or 0 where the text is not one byte from 21 to 7E.
abbrev pub split_of : List ℕ → ℕ
split_of [] = 0
split_of (b ∷ []) = if nat_le 33 b && nat_le b 126 then b else 0
split_of (b ∷ c ∷ bs) = 0

-- whether a part stands as a hash
abbrev pub is_encrypted_of : List ℕ → Option Bool
is_encrypted_of word =
    if bytes_eq word (codes "encrypted") then Some true
    else (if bytes_eq word (codes "signed") then Some false
    else None)

abbrev pub part_by : Option (List ℕ) → Option (List ℕ) → Option Bool → Option (List ℕ) → Option Part
part_by None prefix encrypted from = None
part_by (Some name) None encrypted from = None
part_by (Some name) (Some prefix) None from = None
part_by (Some name) (Some prefix) (Some encrypted) None = None
part_by (Some name) (Some prefix) (Some encrypted) (Some from) =
    Some (record { name = name; prefix = prefix; encrypted = encrypted; from = from })

abbrev pub part_in : Data → Option Part
part_in d =
    if size_of d == 4
    then part_by (any_text_in (get (codes "name") d)) (any_text_in (get (codes "prefix") d))
    (option_and_then is_encrypted_of (any_text_in (get (codes "kind") d))) (any_text_in (get (codes "from") d))
    else None

abbrev pub entry_by : Option (List ℕ) → Option Bool → Option Entry
entry_by None required = None
entry_by (Some name) None = None
entry_by (Some name) (Some required) = Some (record { name = name; required = required })

-- an entry of a constructor
abbrev pub entry_in : Data → Option Entry
entry_in d = if size_of d == 2 then entry_by (any_text_in (get (codes "part") d)) (bool_in (get (codes "required") d))
    else None

-- the place of the part of a name, or the number of parts where there is none
abbrev pub place_of : List ℕ → List Part → ℕ
place_of name [] = 0
place_of name (p ∷ ps) = if bytes_eq p.name name then 0 else suc (place_of name ps)

abbrev pub placed : List Part → Entry → ConstructorPart
placed parts e = record { name = e.name; part = place_of e.name parts; required = e.required }

abbrev pub constructor_of : List Part → List Entry → Constructor
constructor_of parts entries = record { parts = map (placed parts) entries }

-- All parts, in their listed order, all required.
abbrev pub full_entry : Part → Entry
full_entry p = record { name = p.name; required = true }

abbrev pub full_constructor : List Part → Constructor
full_constructor parts = constructor_of parts (map full_entry parts)

-- at most 16, where there are any
abbrev pub constructors_in : List Part → Option Data → Option (List Constructor)
constructors_in parts None = Some (full_constructor parts ∷ [])
constructors_in parts (Some d) = option_map (map (constructor_of parts)) (list_in 16 (array_of entry_in) (Some d))

abbrev pub compound_by : Option (List ℕ) → Option ℕ → Option (List Part) → Option Data → Option Compound
compound_by None split parts constructors = None
compound_by (Some name) None parts constructors = None
compound_by (Some name) (Some split) None constructors = None
compound_by (Some name) (Some split) (Some parts) constructors =
    option_map (λ c. record { name = name; split = split; parts = parts; constructors = c })
    (constructors_in parts constructors)

abbrev pub one_if : Option Data → ℕ
one_if None = 0
one_if (Some d) = 1

abbrev pub compound_in : Data → Option Compound
compound_in d =
    if size_of d == 3 + one_if (get (codes "constructors") d)
    then compound_by (text_in 1 245 (get (codes "name") d))
    (option_map split_of (any_text_in (get (codes "split") d))) (list_in 16 part_in (get (codes "parts") d))
    (get (codes "constructors") d)
    else None

-- ---- the whole

abbrev pub prefix_in : Data → Option (List ℕ)
prefix_in d = text_of 1 255 (as_str d)

-- how many of the members are there that may be left out
abbrev pub count_optional : Data → ℕ
count_optional d =
    one_if (get (codes "sort") d) + one_if (get (codes "unsigned_prefix") d) + one_if (get (codes "context") d) +
    one_if (get (codes "beacon_branch") d)
    + one_if (get (codes "virtual") d) + one_if (get (codes "beacons") d) + one_if (get (codes "compounds") d)

-- `table`, `partition`, `actions`, `recipients`, and no others but those that may be left out
abbrev pub has_its_members : Data → Bool
has_its_members d = size_of d == 4 + count_optional d

abbrev pub setting_in : Data → Option Setting
setting_in d =
    if has_its_members d
    then
    option_and_then (λ table.
    option_and_then (λ schema.
    option_and_then (λ actions.
    option_and_then (λ unsigned_prefix.
    option_and_then (λ context.
    option_and_then (λ recipients.
    option_and_then (λ beacon_branch.
    option_and_then (λ virtuals.
    option_and_then (λ beacons.
    option_and_then (λ compounds.
    Some (record {
      table = table;
      schema = schema;
      actions = actions;
      unsigned_prefix = unsigned_prefix;
      context =
          context;
      recipients = recipients;
      beacon_branch = beacon_branch;
      virtuals = virtuals;
      beacons = beacons;
      compounds = compounds;
    }))
    (list_or_none 16 compound_in (get (codes "compounds") d)))
    (list_or_none 64 standard_in (get (codes "beacons") d)))
    (list_or_none 64 virtual_in (get (codes "virtual") d)))
    (optional branch_id_in (get (codes "beacon_branch") d)))
    (option_and_then (array_of recipient_in) (get (codes "recipients") d)))
    (context_in (get (codes "context") d)))
    (optional prefix_in (get (codes "unsigned_prefix") d)))
    (listed_in (get (codes "actions") d)))
    (schema_in d))
    (text_in 1 255 (get (codes "table") d))
    else None
