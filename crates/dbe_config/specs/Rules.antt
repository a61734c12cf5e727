-- The rules of a configuration that has the right form, each by itself (this project's own).
use Rattle.std.specs.Prelude.{ℕ, ◌==◌, ◌&&◌, ◌||◌, not, Bool, true, false, List, [], ◌∷◌, length, map, nat_eq, nat_lt}
use Rattle.std.specs.Prelude.{bytes_eq, Option, Some, None, is_none, if◌then◌else◌}
use Rattle.std.specs.List.{starts_with, list_any}
use Rattle.dbe_values.specs.declared.key.KeyName.{KeyName}
use Rattle.dbe_values.specs.declared.key.KeySchema.{KeySchema}
use Rattle.dbe_config.specs.declared.action.Action.{Action}
use Rattle.dbe_config.specs.declared.action.Action.TheVariants as action
use Rattle.dbe_config.specs.declared.recipient.Recipient.{Recipient}
use Rattle.dbe_config.specs.declared.recipient.Recipient.TheVariants as recipient
use Rattle.dbe_config.specs.declared.virtual_field.Virtual.{Virtual}
use Rattle.dbe_config.specs.declared.standard.Standard.{Standard}
use Rattle.dbe_config.specs.declared.compound.Compound.{Compound}
use Rattle.dbe_config.specs.declared.compound.Part.{Part}
use Rattle.dbe_config.specs.declared.constructor.Constructor.{Constructor}
use Rattle.dbe_config.specs.declared.constructor.ConstructorPart.{ConstructorPart}
use Rattle.dbe_config.specs.Setting.{Setting}
use Rattle.dbe_config.specs.Actions.{is_reserved, is_key, is_sort, action_at, is_encrypted, is_signed_only}

-- whether a list has nothing
abbrev pub is_empty_list : {A : Type 0} → List A → Bool
is_empty_list [] = true
is_empty_list (x ∷ xs) = false

-- ---- a key is listed as SIGN_ONLY, or not at all

abbrev pub is_other : Option Action → Bool
is_other None = false
is_other (Some action.EncryptAndSign) = true
is_other (Some action.SignOnly) = false
is_other (Some action.DoNothing) = true

abbrev pub is_sort_listed_otherwise : Option KeyName → List (List ℕ × Action) → Bool
is_sort_listed_otherwise None actions = false
is_sort_listed_otherwise (Some key) actions = is_other (action_at key.name actions)

abbrev pub is_key_listed_otherwise : KeySchema → List (List ℕ × Action) → Bool
is_key_listed_otherwise schema actions = is_other (action_at schema.partition.name actions) ||
    is_sort_listed_otherwise schema.sort actions

-- ---- no name begins as those that dbe keeps for itself

abbrev pub is_sort_reserved : Option KeyName → Bool
is_sort_reserved None = false
is_sort_reserved (Some key) = is_reserved key.name

abbrev pub is_key_reserved : KeySchema → Bool
is_key_reserved schema = is_reserved schema.partition.name || is_sort_reserved schema.sort

abbrev pub has_reserved : List (List ℕ) → Bool
has_reserved names = list_any is_reserved names

abbrev pub lists_reserved : List (List ℕ × Action) → Bool
lists_reserved actions = list_any (λ a. is_reserved a.0) actions

abbrev pub virtual_names : List Virtual → List (List ℕ)
virtual_names virtuals = map (λ v. v.name) virtuals

abbrev pub compound_names : List Compound → List (List ℕ)
compound_names compounds = map (λ c. c.name) compounds

abbrev pub uses_reserved_name : Setting → Bool
uses_reserved_name s = is_key_reserved s.schema || lists_reserved s.actions || has_reserved (virtual_names s.virtuals)
    || has_reserved (compound_names s.compounds)

-- ---- no name stands twice

abbrev pub is_among : List ℕ → List (List ℕ) → Bool
is_among name names = list_any (bytes_eq name) names

abbrev pub is_twice : List (List ℕ) → Bool
is_twice [] = false
is_twice (name ∷ names) = is_among name names || is_twice names

-- a key or a listed name
abbrev pub is_listed : Option Action → Bool
is_listed None = false
is_listed (Some a) = true

abbrev pub is_attribute : KeySchema → List (List ℕ × Action) → List ℕ → Bool
is_attribute schema actions name = is_key name schema || is_listed (action_at name actions)

abbrev pub part_names : List Part → List (List ℕ)
part_names parts = map (λ p. p.name) parts

abbrev pub entry_names : List ConstructorPart → List (List ℕ)
entry_names entries = map (λ e. e.name) entries

abbrev pub names_entry_twice : Constructor → Bool
names_entry_twice k = is_twice (entry_names k.parts)

abbrev pub names_part_twice : Compound → Bool
names_part_twice c = is_twice (part_names c.parts) || list_any names_entry_twice c.constructors

abbrev pub standard_names : List Standard → List (List ℕ)
standard_names beacons = map (λ b. b.name) beacons

-- virtual and compound names among themselves, and among the attributes
abbrev pub names_computed_twice : Setting → Bool
names_computed_twice s =
    is_twice (virtual_names s.virtuals) || is_twice (compound_names s.compounds)
    || list_any (λ name. is_among name (virtual_names s.virtuals)) (compound_names s.compounds)
    || list_any (is_attribute s.schema s.actions) (virtual_names s.virtuals)
    || list_any (is_attribute s.schema s.actions) (compound_names s.compounds)

abbrev pub uses_name_twice : Setting → Bool
uses_name_twice s =
    is_sort s.schema.partition.name s.schema.sort || names_computed_twice s
    || is_twice (standard_names s.beacons) || list_any names_part_twice s.compounds

-- ---- the length of a beacon is from 1 to 63; 0 stands for every other number

abbrev pub has_wrong_length : List Standard → Bool
has_wrong_length beacons = list_any (λ b. b.length == 0) beacons

-- ---- what a virtual field, a beacon or a part is made from

-- a key, or an attribute that is encrypted or signed
abbrev pub is_signed_name : KeySchema → List (List ℕ × Action) → List ℕ → Bool
is_signed_name schema actions name = is_key name schema || is_encrypted (action_at name actions) || is_signed_only
    (action_at name actions)

abbrev pub has_wrong_from : KeySchema → List (List ℕ × Action) → Virtual → Bool
has_wrong_from schema actions v = list_any (λ p. not (is_signed_name schema actions p.from)) v.parts

-- an encrypted attribute or a virtual field
abbrev pub is_beacon_source : List (List ℕ × Action) → List Virtual → List ℕ → Bool
is_beacon_source actions virtuals name = is_encrypted (action_at name actions) || is_among name (virtual_names virtuals)

abbrev pub has_wrong_beacon : List (List ℕ × Action) → List Virtual → List Standard → Bool
has_wrong_beacon actions virtuals beacons = list_any (λ b. not (is_beacon_source actions virtuals b.name)) beacons

-- A standard beacon for an encrypted part, else a key or an attribute that is signed only.
abbrev pub is_part_source : KeySchema → List (List ℕ × Action) → List Standard → Part → Bool
is_part_source schema actions beacons p =
    if p.encrypted then is_among p.from (standard_names beacons) else is_key p.from schema || is_signed_only
    (action_at p.from actions)

abbrev pub has_unknown_part : ℕ → Constructor → Bool
has_unknown_part count k = list_any (λ e. not (nat_lt e.part count)) k.parts

abbrev pub has_wrong_part : KeySchema → List (List ℕ × Action) → List Standard → Compound → Bool
has_wrong_part schema actions beacons c =
    list_any (λ p. not (is_part_source schema actions beacons p)) c.parts || list_any
    (has_unknown_part (length c.parts)) c.constructors

-- a standard beacon or a compound
abbrev pub has_beacons : List Standard → List Compound → Bool
has_beacons beacons compounds = not (is_empty_list beacons) || not (is_empty_list compounds)

abbrev pub lacks_branch : Setting → Bool
lacks_branch s = has_beacons s.beacons s.compounds && not (is_empty_list s.recipients) && is_none s.beacon_branch

abbrev pub has_wrong_source : Setting → Bool
has_wrong_source s =
    list_any (has_wrong_from s.schema s.actions) s.virtuals || has_wrong_beacon s.actions s.virtuals s.beacons
    || list_any (has_wrong_part s.schema s.actions s.beacons) s.compounds || lacks_branch s

-- ---- no prefix of a part is empty or begins another's; the names of parts differ here

abbrev pub clashes : Part → Part → Bool
clashes p q = not (bytes_eq p.name q.name) && starts_with nat_eq q.prefix p.prefix

abbrev pub clashes_with_any : List Part → Part → Bool
clashes_with_any parts p = is_empty_list p.prefix || list_any (clashes p) parts

abbrev pub has_prefix_clash : Compound → Bool
has_prefix_clash c = list_any (clashes_with_any c.parts) c.parts

-- ---- the split character is one byte from 21 to 7E, for which 0 stands, and in no prefix

abbrev pub has_byte : ℕ → List ℕ → Bool
has_byte b text = list_any (λ x. x == b) text

abbrev pub has_wrong_split : Compound → Bool
has_wrong_split c = c.split == 0 || list_any (λ p. has_byte c.split p.prefix) c.parts

-- ---- there are parts, constructors, and required parts

abbrev pub has_none_required : Constructor → Bool
has_none_required k = not (list_any (λ e. e.required) k.parts)

abbrev pub is_empty_compound : Compound → Bool
is_empty_compound c = is_empty_list c.parts || is_empty_list c.constructors || list_any has_none_required c.constructors

-- ---- no two recipients are the same

-- Namespace and name of a raw ring. A branch ring has none, since all are alike.
abbrev pub ring_name : Recipient → Option (List ℕ × List ℕ)
ring_name (recipient.Raw namespace name key) = Some (namespace, name)
ring_name (recipient.Branch branch) = None

abbrev pub is_same_ring : Recipient → Recipient → Bool
is_same_ring (recipient.Raw namespace name key) (recipient.Raw namespace' name' key') =
    bytes_eq namespace namespace' && bytes_eq name name'
is_same_ring (recipient.Raw namespace name key) (recipient.Branch branch) = false
is_same_ring (recipient.Branch branch) (recipient.Raw namespace name key) = false
is_same_ring (recipient.Branch branch) (recipient.Branch branch') = true

abbrev pub has_ring_twice : List Recipient → Bool
has_ring_twice [] = false
has_ring_twice (r ∷ rs) = list_any (is_same_ring r) rs || has_ring_twice rs

-- ---- what cannot be sealed yet: a recipient of a branch, and recipients beside a beacon or a compound

abbrev pub is_branch : Recipient → Bool
is_branch (recipient.Raw namespace name key) = false
is_branch (recipient.Branch branch) = true

abbrev pub has_branch : List Recipient → Bool
has_branch recipients = list_any is_branch recipients

abbrev pub is_not_built : Setting → Bool
is_not_built s = has_branch s.recipients || not (is_empty_list s.recipients) && has_beacons s.beacons s.compounds
