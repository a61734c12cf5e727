-- The JSON value that spells a value (DynamoDB JSON).
use Rattle.std.specs.Prelude.{ℕ, true, List, [], ◌∷◌, codes}
use Rattle.serde_json.specs.Data.{Data, string, boolean, array, object, Items, no_items, item, Members, no_members}
use Rattle.serde_json.specs.Data.{member, put}
use Rattle.base64.specs.GeneralPurpose.{encode_of}
use Rattle.base64.specs.Engines.{standard}
use Rattle.dbe_num.specs.NormalText.{normal_text}
use Rattle.dbe_values.specs.Val as v
use Rattle.dbe_values.specs.Val.{Val, Vals, Entries}
use Rattle.dbe_values.specs.View.{view}
use Rattle.dbe_values.specs.declared.value.AttrValue.{AttrValue}

-- an object with one member
abbrev pub tagged : List ℕ → Data → Data
tagged name d = object (member name d no_members)

-- bytes in base64 (RFC 4648, section 4)
abbrev pub base64_text : List ℕ → Data
base64_text b = string (encode_of standard b)

abbrev pub strings : List (List ℕ) → Items
strings [] = no_items
strings (s ∷ ss) = item (string s) (strings ss)

abbrev pub base64_texts : List (List ℕ) → Items
base64_texts [] = no_items
base64_texts (b ∷ bs) = item (base64_text b) (base64_texts bs)

abbrev mutual
  pub value_data : Val → Data
  value_data (v.text x) = tagged (codes "S") (string x)
  value_data (v.number x) = tagged (codes "N") (string (normal_text x))
  value_data (v.binary x) = tagged (codes "B") (base64_text x)
  value_data (v.boolean x) = tagged (codes "BOOL") (boolean x)
  value_data v.nothing = tagged (codes "NULL") (boolean true)
  value_data (v.texts xs) = tagged (codes "SS") (array (strings xs))
  value_data (v.numbers xs) = tagged (codes "NS") (array (strings xs))
  value_data (v.binaries xs) = tagged (codes "BS") (array (base64_texts xs))
  value_data (v.list vs) = tagged (codes "L") (array (vals_data vs))
  value_data (v.map es) = tagged (codes "M") (object (with_entries no_members es))

  pub vals_data : Vals → Items
  vals_data v.no_vals = no_items
  vals_data (v.val x xs) = item (value_data x) (vals_data xs)

  -- members with those of entries put among them
  pub with_entries : Members → Entries → Members
  with_entries ms v.no_entries = ms
  with_entries ms (v.entry name x es) = with_entries (put name (value_data x) ms) es

-- members with those of attributes put among them
abbrev pub with_members : Members → List (List ℕ × AttrValue) → Members
with_members ms [] = ms
with_members ms (a ∷ others) = with_members (put a.0 (value_data (view a.1)) ms) others

abbrev pub item_data : List (List ℕ × AttrValue) → Data
item_data attributes = object (with_members no_members attributes)
