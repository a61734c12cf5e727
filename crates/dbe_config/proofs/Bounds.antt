-- What was read keeps its bounds.
use Rattle.std.proofs.Common.{◌≡◌, ◌≤◌, ◌∙◌, ℕ, Bool, true, false, List, [], ◌∷◌, ◌&&◌, refl, ap, sym, Some, None}
use Rattle.std.proofs.Common.{length, nat_le, nat_lt, bytes_eq, arith, if◌then◌else◌, subst, suc, ◌==◌, ◌+◌}
use Rattle.std.specs.declared.option.Option.{Option}
use Rattle.std.specs.Option.{option_and_then, option_map, IfSome}
use Rattle.std.specs.List.{All}
use Rattle.std.specs.Prelude.{codes}
use Rattle.std.proofs.lemmas.Bool.{leb-true}
use Rattle.std.proofs.lemmas.List.Elements.{All-nil, All-cons}
use Rattle.serde_json.specs.Data.{Data, null, boolean, number, string, array, object, Num, unsigned, negative, float}
use Rattle.serde_json.specs.Data.{Items, no_items, item, Members, no_members, member}
use Rattle.serde_json.specs.Events.{members_len}
use Rattle.serde_json.specs.Find.{get, as_str, as_object, as_array, as_number}
use Rattle.dbe_values.specs.Json.{size_of}
use Rattle.dbe_values.specs.declared.key.KeyKind.{KeyKind}
use Rattle.dbe_values.specs.declared.key.KeyName.{KeyName}
use Rattle.dbe_values.specs.declared.key.KeySchema.{KeySchema}
use Rattle.dbe_config.specs.declared.context_pair.ContextPair.{ContextPair}
use Rattle.dbe_config.specs.declared.recipient.Recipient.{Recipient}
use Rattle.dbe_config.specs.declared.recipient.Recipient.TheVariants as recipient
use Rattle.dbe_config.specs.declared.virtual_field.Virtual.{Virtual}
use Rattle.dbe_config.specs.declared.virtual_field.VirtualPart.{VirtualPart}
use Rattle.dbe_config.specs.declared.standard.Standard.{Standard}
use Rattle.dbe_config.specs.declared.compound.Compound.{Compound}
use Rattle.dbe_config.specs.declared.compound.Part.{Part}
use Rattle.dbe_config.specs.declared.constructor.Constructor.{Constructor}
use Rattle.dbe_config.specs.declared.action.Action.{Action}
use Rattle.dbe_config.specs.Setting.{Setting}
use Rattle.dbe_config.specs.Spelling.{any_text_in, text_of, text_in, with_first, all_in, array_of, list_in}
use Rattle.dbe_config.specs.Spelling.{list_or_none, optional, count_of}
use Rattle.dbe_config.specs.Shape.{key_by, key_in, schema_by, schema_in, pair_of, pairs_in, context_in, namespace_of}
use Rattle.dbe_config.specs.Shape.{key_bytes_of, part_in, raw_by, raw_in, branch_by, branch_in, recipient_by}
use Rattle.dbe_config.specs.Shape.{recipient_in, virtual_by, virtual_in, length_of, standard_by, standard_in}
use Rattle.dbe_config.specs.Shape.{split_of, compound_by, compound_in, constructors_in, one_if, listed_in, prefix_in}
use Rattle.dbe_config.specs.Shape.{branch_id_in, has_its_members, setting_in}
use Rattle.dbe_config.specs.Bounds.{HasBytes, IsPair, AreInOrder, IsRing, IsBounded}

-- what a chain that gives something went through
bound : {A B : Type 0} (f : A → Option B) (o : Option A) (b : B) → option_and_then f o ≡ Some b → (a : A) ×
    (o ≡ Some a) × (f a ≡ Some b)
bound f None b is = absurd (cc)
bound f (Some a) b is = (a, refl, is)

tested : {A : Type 0} (t : Bool) (o : Option A) (a : A) → (if t then o else None) ≡ Some a → (t ≡ true) × (o ≡ Some a)
tested true o a is = (refl, is)
tested false o a is = absurd (cc)

both : (s t : Bool) → (s && t) ≡ true → (s ≡ true) × (t ≡ true)
both true true is = (refl, refl)
both true false is = absurd (cc)
both false t is = absurd (cc)

text_bounds : (low high : ℕ) (o : Option (List ℕ)) (t : List ℕ) → text_of low high o ≡ Some t → HasBytes low high t
text_bounds low high None t is = absurd (cc)
text_bounds low high (Some u) t is =
    let known = tested (nat_le low (length u) && nat_le (length u) high) (Some u) t is in
    let within = both (nat_le low (length u)) (nat_le (length u) high) known.0 in
    let same : u ≡ t = (cc) in
    subst (λ (x : List ℕ). HasBytes low high x) same (leb-true _ _ within.0, leb-true _ _ within.1)

each_first : {A : Type 0} (P : A → Type 0) (o : Option A) (others : Option (List A)) (found : List A) →
    ((a : A) → o ≡ Some a → P a) → ((rest : List A) → others ≡ Some rest → All P rest) →
    with_first o others ≡ Some found → All P found
each_first P None others found one more is = absurd (cc)
each_first P (Some a) None found one more is = absurd (cc)
each_first P (Some a) (Some more_of) [] one more is = absurd (cc)
each_first P (Some a) (Some more_of) (b ∷ bs) one more is =
    let first : a ≡ b = (cc) in
    let rest : more_of ≡ bs = (cc) in
    All-cons P b bs (one b (ap Some first)) (more bs (ap Some rest))

each_in : {A : Type 0} (P : A → Type 0) (f : Data → Option A) → ((d : Data) (a : A) → f d ≡ Some a → P a) →
    (ds : Items) (found : List A) → all_in f ds ≡ Some found → All P found
each_in P f one no_items [] is = All-nil P
each_in P f one no_items (a ∷ others) is = absurd (cc)
each_in P f one (item d ds) found is = each_first P (f d) (all_in f ds) found (one d) (each_in P f one ds) is

-- ---- keys

key_name : (o : Option (List ℕ)) (k : Option KeyKind) (key : KeyName) → key_by o k ≡ Some key → o ≡ Some key.name
key_name None k key is = absurd (cc)
key_name (Some name) None key is = absurd (cc)
key_name (Some name) (Some k) key is = ap (option_map (λ (x : KeyName). x.name)) is

key_bounds : (d : Data) (key : KeyName) → key_in d ≡ Some key → HasBytes 1 245 key.name
key_bounds d key is = text_bounds 1 245 (any_text_in (get (codes "name") d)) key.name
    (key_name _ _ key (tested (size_of d == 2) _ key is).1)

partition_bounds : (o : Option Data) (key : KeyName) → option_and_then key_in o ≡ Some key → HasBytes 1 245 key.name
partition_bounds o key is = let found = bound key_in o key is in key_bounds found.0 key found.2

sort_bounds : (o : Option Data) (s : Option KeyName) → optional key_in o ≡ Some s →
    IfSome s (λ key. HasBytes 1 245 key.name)
sort_bounds o None is = tt
sort_bounds None (Some key) is = absurd (cc)
sort_bounds (Some d) (Some key) is =
    let found = bound (λ a. Some (Some a)) (key_in d) (Some key) is in
    let same : found.0 ≡ key = (cc) in
    key_bounds d key (found.1 ∙ ap Some same)

schema_parts : (p : Option KeyName) (s : Option (Option KeyName)) (schema : KeySchema) → schema_by p s ≡ Some schema →
    (p ≡ Some schema.partition) × (s ≡ Some schema.sort)
schema_parts None s schema is = absurd (cc)
schema_parts (Some p) None schema is = absurd (cc)
schema_parts (Some p) (Some s) schema is = (
  ap (option_map (λ (x : KeySchema). x.partition)) is,
  ap (option_map (λ (x : KeySchema). x.sort)) is,
)

-- ---- context

pair_parts : (key : List ℕ) (o : Option (List ℕ)) (p : ContextPair) → pair_of key o ≡ Some p → HasBytes 1 255 p.key ×
    (o ≡ Some p.value)
pair_parts key None p is = absurd (cc)
pair_parts key (Some value) p is =
    let known = tested (nat_lt 0 (length key) && nat_le (length key) 255) (Some (record { key = key; value = value }))
    p is in
    let within = both (nat_lt 0 (length key)) (nat_le (length key) 255) known.0 in
    let same : Some key ≡ Some p.key = ap (option_map (λ (x : ContextPair). x.key)) known.1 in
    let key_same : key ≡ p.key = (cc) in (
      subst (λ (x : List ℕ). HasBytes 1 255 x) key_same (leb-true _ _ within.0, leb-true _ _ within.1),
      ap (option_map (λ (x : ContextPair). x.value)) known.1,
    )

pair_bounds : (key : List ℕ) (o : Option (List ℕ)) (p : ContextPair) → pair_of key (text_of 0 1024 o) ≡ Some p →
    IsPair p
pair_bounds key o p is = let parts = pair_parts key (text_of 0 1024 o) p is in
    (parts.0, text_bounds 0 1024 o p.value parts.1)

pairs_bounds : (ms : Members) (pairs : List ContextPair) → pairs_in ms ≡ Some pairs → All IsPair pairs
pairs_bounds no_members [] is = All-nil IsPair
pairs_bounds no_members (p ∷ pairs) is = absurd (cc)
pairs_bounds (member key d ms) pairs is = each_first IsPair _ _ pairs (λ p. pair_bounds key (as_str d) p)
    (pairs_bounds ms) is

more_first : {A : Type 0} (o : Option A) (others : Option (List A)) (found : List A) (n : ℕ) →
    ((rest : List A) → others ≡ Some rest → length rest ≡ n) → with_first o others ≡ Some found → length found ≡ suc n
more_first None others found n more is = absurd (cc)
more_first (Some a) None found n more is = absurd (cc)
more_first (Some a) (Some more_of) found n more is =
    let same : (a ∷ more_of) ≡ found = (cc) in
    ap length (sym same) ∙ ap suc (more more_of refl)

pairs_count : (ms : Members) (pairs : List ContextPair) → pairs_in ms ≡ Some pairs → length pairs ≡ members_len ms
pairs_count no_members [] is = refl
pairs_count no_members (p ∷ pairs) is = absurd (cc)
pairs_count (member key d ms) pairs is = more_first _ _ pairs (members_len ms) (pairs_count ms) is

object_size : (d : Data) (ms : Members) → as_object d ≡ Some ms → size_of d ≡ members_len ms
object_size null ms is = absurd (cc)
object_size (boolean b) ms is = absurd (cc)
object_size (number n) ms is = absurd (cc)
object_size (string s) ms is = absurd (cc)
object_size (array ds) ms is = absurd (cc)
object_size (object ns) ms is = let same : ns ≡ ms = (cc) in ap members_len same

context_bounds : (o : Option Data) (pairs : List ContextPair) → context_in o ≡ Some pairs → (length pairs ≤ 32) ×
    All IsPair pairs
context_bounds None [] is = (omega arith, All-nil IsPair)
context_bounds None (p ∷ pairs) is = absurd (cc)
context_bounds (Some d) pairs is =
    let known = tested (nat_le (size_of d) 32) _ pairs is in
    let found = bound pairs_in (as_object d) pairs known.1 in
    let count = leb-true _ _ known.0 in
    let size : length pairs ≡ size_of d = pairs_count found.0 pairs found.2 ∙ sym (object_size d found.0 found.1) in
    (subst (λ (n : ℕ). n ≤ 32) (sym size) count, pairs_bounds found.0 pairs found.2)

-- ---- recipients

namespace_by : (t : Bool) (u v : List ℕ) → (if t then None else Some u) ≡ Some v → u ≡ v
namespace_by true u v is = absurd (cc)
namespace_by false u v is = (cc)

namespace_within : (o : Option (List ℕ)) (t : List ℕ) → ((u : List ℕ) → o ≡ Some u → HasBytes 1 255 u) →
    namespace_of o ≡ Some t → HasBytes 1 255 t
namespace_within None t one is = absurd (cc)
namespace_within (Some u) t one is =
    subst (λ (x : List ℕ). HasBytes 1 255 x) (namespace_by (bytes_eq u (codes "dbe-hierarchy")) u t is) (one u refl)

namespace_bounds : (o : Option (List ℕ)) (t : List ℕ) → namespace_of (text_of 1 255 o) ≡ Some t → HasBytes 1 255 t
namespace_bounds o t is = namespace_within (text_of 1 255 o) t (text_bounds 1 255 o) is

raw_bounds : (n m k : Option (List ℕ)) (r : Recipient) → ((t : List ℕ) → n ≡ Some t → HasBytes 1 255 t) →
    ((t : List ℕ) → m ≡ Some t → HasBytes 1 255 t) → raw_by n m k ≡ Some r → IsRing r
raw_bounds None m k r one two is = absurd (cc)
raw_bounds (Some n) None k r one two is = absurd (cc)
raw_bounds (Some n) (Some m) None r one two is = absurd (cc)
raw_bounds (Some n) (Some m) (Some k) r one two is =
    let same : recipient.Raw n m k ≡ r = (cc) in
    subst IsRing same (one n refl, two m refl)

branch_bounds : (o : Option (List ℕ)) (r : Recipient) → branch_by o ≡ Some r → IsRing r
branch_bounds None r is = absurd (cc)
branch_bounds (Some id) r is =
    let same : recipient.Branch id ≡ r = (cc) in
    subst IsRing same tt

ring_by : (raw branch : Bool) (a b : Option Recipient) (r : Recipient) → (a ≡ Some r → IsRing r) →
    (b ≡ Some r → IsRing r) → (if raw then a else (if branch then b else None)) ≡ Some r → IsRing r
ring_by true branch a b r one two is = one is
ring_by false true a b r one two is = two is
ring_by false false a b r one two is = absurd (cc)

raw_in_bounds : (d : Data) (r : Recipient) → raw_in d ≡ Some r → IsRing r
raw_in_bounds d r is = raw_bounds _ _ (option_and_then key_bytes_of (any_text_in (get (codes "key") d))) r
    (namespace_bounds (any_text_in (get (codes "namespace") d)))
    (text_bounds 1 255 (any_text_in (get (codes "name") d))) (tested (size_of d == 4) _ r is).1

branch_in_bounds : (d : Data) (r : Recipient) → branch_in d ≡ Some r → IsRing r
branch_in_bounds d r is = branch_bounds _ r (tested (size_of d == 2) _ r is).1

ring_of : (o : Option (List ℕ)) (d : Data) (r : Recipient) → recipient_by o d ≡ Some r → IsRing r
ring_of None d r is = absurd (cc)
ring_of (Some word) d r is = ring_by (bytes_eq word (codes "raw")) (bytes_eq word (codes "branch")) (raw_in d)
    (branch_in d) r (raw_in_bounds d r) (branch_in_bounds d r) is

ring_bounds : (d : Data) (r : Recipient) → recipient_in d ≡ Some r → IsRing r
ring_bounds d r is = ring_of (any_text_in (get (codes "kind") d)) d r is

-- ---- virtual fields, beacons and compounds

virtual_name : (o : Option (List ℕ)) (parts : Option (List VirtualPart)) (v : Virtual) → virtual_by o parts ≡ Some v →
    o ≡ Some v.name
virtual_name None parts v is = absurd (cc)
virtual_name (Some name) None v is = absurd (cc)
virtual_name (Some name) (Some []) v is = absurd (cc)
virtual_name (Some name) (Some (p ∷ ps)) v is = ap (option_map (λ (x : Virtual). x.name)) is

virtual_bounds : (d : Data) (v : Virtual) → virtual_in d ≡ Some v → HasBytes 1 245 v.name
virtual_bounds d v is = text_bounds 1 245 (any_text_in (get (codes "name") d)) v.name
    (virtual_name _ _ v (tested (size_of d == 2) _ v is).1)

length_by : (t : Bool) (n l : ℕ) → (t ≡ true → n ≤ 63) → (if t then Some n else Some 0) ≡ Some l → l ≤ 63
length_by true n l within is = let same : n ≡ l = (cc) in subst (λ (m : ℕ). m ≤ 63) same (within refl)
length_by false n l within is = let same : 0 ≡ l = (cc) in subst (λ (m : ℕ). m ≤ 63) same (omega arith)

length_within : (n : Num) (l : ℕ) → length_of n ≡ Some l → l ≤ 63
length_within (unsigned n) l is =
    length_by (nat_le 1 n && nat_le n 63) n l (λ t. leb-true _ _ (both (nat_le 1 n) (nat_le n 63) t).1) is
length_within (negative z) l is = let same : 0 ≡ l = (cc) in subst (λ (n : ℕ). n ≤ 63) same (omega arith)
length_within (float x) l is = absurd (cc)

standard_length : (o : Option (List ℕ)) (l : Option ℕ) (b : Standard) → standard_by o l ≡ Some b → l ≡ Some b.length
standard_length None l b is = absurd (cc)
standard_length (Some name) None b is = absurd (cc)
standard_length (Some name) (Some l) b is = ap (option_map (λ (x : Standard). x.length)) is

standard_bounds : (d : Data) (b : Standard) → standard_in d ≡ Some b → b.length ≤ 63
standard_bounds d b is =
    let found = bound length_of (option_and_then as_number (get (codes "length") d)) b.length
    (standard_length _ _ b (tested (size_of d == 2) _ b is).1) in
    length_within found.0 b.length found.2

split_by : (t : Bool) (b : ℕ) → (t ≡ true → b ≤ 126) → (if t then b else 0) ≤ 126
split_by true b within = within refl
split_by false b within = omega arith

split_within : (text : List ℕ) → split_of text ≤ 126
split_within [] = omega arith
split_within (b ∷ []) =
    split_by (nat_le 33 b && nat_le b 126) b (λ t. leb-true _ _ (both (nat_le 33 b) (nat_le b 126) t).1)
split_within (b ∷ c ∷ bs) = omega arith

compound_made : (name : List ℕ) (s : ℕ) (ps : List Part) (ks : Option (List Constructor)) (c : Compound) →
    option_map (λ k. record { name = name; split = s; parts = ps; constructors = k }) ks ≡ Some c →
    (◌≡◌ {A = Option (List ℕ)} (Some name) (Some c.name)) × (◌≡◌ {A = Option ℕ} (Some s) (Some c.split))
compound_made name s ps None c is = absurd (cc)
compound_made name s ps (Some k) c is = (
  ap (option_map (λ (x : Compound). x.name)) is,
  ap (option_map (λ (x : Compound). x.split)) is,
)

compound_parts : (o : Option (List ℕ)) (s : Option ℕ) (ps : Option (List Part)) (k : Option Data) (c : Compound) →
    compound_by o s ps k ≡ Some c → (o ≡ Some c.name) × (s ≡ Some c.split)
compound_parts None s ps k c is = absurd (cc)
compound_parts (Some name) None ps k c is = absurd (cc)
compound_parts (Some name) (Some s) None k c is = absurd (cc)
compound_parts (Some name) (Some s) (Some ps) k c is = compound_made name s ps (constructors_in ps k) c is

split_bounds : (o : Option (List ℕ)) (s : ℕ) → option_map split_of o ≡ Some s → s ≤ 126
split_bounds None s is = absurd (cc)
split_bounds (Some t) s is = let same : split_of t ≡ s = (cc) in subst (λ (n : ℕ). n ≤ 126) same (split_within t)

compound_bounds : (d : Data) (c : Compound) → compound_in d ≡ Some c → HasBytes 1 245 c.name × (c.split ≤ 126)
compound_bounds d c is =
    let parts = compound_parts _ _ (list_in 16 part_in (get (codes "parts") d)) (get (codes "constructors") d) c
    (tested (size_of d == 3 + one_if (get (codes "constructors") d)) _ c is).1 in (
      text_bounds 1 245 (any_text_in (get (codes "name") d)) c.name parts.0,
      split_bounds (any_text_in (get (codes "split") d)) c.split parts.1,
    )

-- ---- lists

array_bounds : {A : Type 0} (P : A → Type 0) (f : Data → Option A) → ((d : Data) (a : A) → f d ≡ Some a → P a) →
    (d : Data) (found : List A) → array_of f d ≡ Some found → All P found
array_bounds P f one d found is = let items = bound (all_in f) (as_array d) found is in
    each_in P f one items.0 found items.2

list_bounds : {A : Type 0} (P : A → Type 0) (f : Data → Option A) → ((d : Data) (a : A) → f d ≡ Some a → P a) →
    (most : ℕ) (o : Option Data) (found : List A) → list_or_none most f o ≡ Some found → All P found
list_bounds P f one most None [] is = All-nil P
list_bounds P f one most None (a ∷ others) is = absurd (cc)
list_bounds P f one most (Some d) found is =
    array_bounds P f one d found (tested (nat_le (count_of d) most) (array_of f d) found is).1

-- ---- the whole

whole_bounds : (d : Data) (table : List ℕ) (schema : KeySchema) (actions : List (List ℕ × Action))
    (unsigned_prefix : Option (List ℕ)) (context : List ContextPair) (recipients : List Recipient)
    (beacon_branch : Option (List ℕ)) (virtuals : List Virtual) (beacons : List Standard) (compounds : List Compound)
    (s : Setting)
    → text_in 1 255 (get (codes "table") d) ≡ Some table → schema_in d ≡ Some schema →
    context_in (get (codes "context") d) ≡ Some context
    → option_and_then (array_of recipient_in) (get (codes "recipients") d) ≡ Some recipients
    → list_or_none 64 virtual_in (get (codes "virtual") d) ≡ Some virtuals →
    list_or_none 64 standard_in (get (codes "beacons") d) ≡ Some beacons →
    list_or_none 16 compound_in (get (codes "compounds") d) ≡ Some compounds
    → ◌≡◌ {A = Option Setting} (Some (record {
      table = table;
      schema = schema;
      actions = actions;
      unsigned_prefix =
          unsigned_prefix;
      context = context;
      recipients = recipients;
      beacon_branch = beacon_branch;
      virtuals =
          virtuals;
      beacons = beacons;
      compounds = compounds;
    })) (Some s)
    → AreInOrder s.context → IsBounded s
whole_bounds d table schema actions unsigned_prefix context recipients beacon_branch virtuals beacons compounds s
    is_table is_schema is_context is_recipients is_virtuals is_beacons is_compounds is order =
    let made : (record {
      table = table;
      schema = schema;
      actions = actions;
      unsigned_prefix = unsigned_prefix;
      context = context;
      recipients = recipients;
      beacon_branch = beacon_branch;
      virtuals = virtuals;
      beacons =
          beacons;
      compounds = compounds;
    }) ≡ s = (cc) in
    let keys = schema_parts _ _ schema is_schema in
    let pairs = context_bounds (get (codes "context") d) context is_context in
    let rings = bound (array_of recipient_in) (get (codes "recipients") d) recipients is_recipients in
    record {
      table = subst (λ (x : Setting). HasBytes 1 255 x.table) made
          (text_bounds 1 255 (any_text_in (get (codes "table") d)) table is_table);
      partition = subst (λ (x : Setting). HasBytes 1 245 x.schema.partition.name) made
          (partition_bounds (get (codes "partition") d) schema.partition keys.0);
      sort = subst (λ (x : Setting). IfSome x.schema.sort (λ key. HasBytes 1 245 key.name)) made
          (sort_bounds (get (codes "sort") d) schema.sort keys.1);
      pairs_count = subst (λ (x : Setting). length x.context ≤ 32) made pairs.0;
      pairs = subst (λ (x : Setting). All IsPair x.context) made pairs.1;
      order = order;
      rings = subst (λ (x : Setting). All IsRing x.recipients) made (array_bounds IsRing recipient_in ring_bounds
          rings.0 recipients rings.2);
      virtuals = subst (λ (x : Setting). All (λ v. HasBytes 1 245 v.name) x.virtuals) made (list_bounds _ virtual_in
          virtual_bounds 64 (get (codes "virtual") d) virtuals is_virtuals);
      beacons = subst (λ (x : Setting). All (λ b. b.length ≤ 63) x.beacons) made (list_bounds _ standard_in
          standard_bounds 64 (get (codes "beacons") d) beacons is_beacons);
      compounds = subst (λ (x : Setting). All (λ c. HasBytes 1 245 c.name × (c.split ≤ 126)) x.compounds) made
          (list_bounds _ compound_in compound_bounds 16 (get (codes "compounds") d) compounds is_compounds);
    }

-- what was read keeps its bounds, where its context is in order
pub setting_bounds : (d : Data) (s : Setting) → setting_in d ≡ Some s → AreInOrder s.context → IsBounded s
setting_bounds d s is order =
    let whole = tested (has_its_members d) _ s is in
    let table = bound _ (text_in 1 255 (get (codes "table") d)) s whole.1 in
    let schema = bound _ (schema_in d) s table.2 in
    let actions = bound _ (listed_in (get (codes "actions") d)) s schema.2 in
    let unsigned_prefix = bound _ (optional prefix_in (get (codes "unsigned_prefix") d)) s actions.2 in
    let context = bound _ (context_in (get (codes "context") d)) s unsigned_prefix.2 in
    let recipients = bound _ (option_and_then (array_of recipient_in) (get (codes "recipients") d)) s context.2 in
    let beacon_branch = bound _ (optional branch_id_in (get (codes "beacon_branch") d)) s recipients.2 in
    let virtuals = bound _ (list_or_none 64 virtual_in (get (codes "virtual") d)) s beacon_branch.2 in
    let beacons = bound _ (list_or_none 64 standard_in (get (codes "beacons") d)) s virtuals.2 in
    let compounds = bound _ (list_or_none 16 compound_in (get (codes "compounds") d)) s beacons.2 in
    whole_bounds d table.0 schema.0 actions.0 unsigned_prefix.0 context.0 recipients.0 beacon_branch.0 virtuals.0
    beacons.0 compounds.0 s
    table.1 schema.1 context.1 recipients.1 virtuals.1 beacons.1 compounds.1 compounds.2 order
