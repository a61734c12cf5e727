-- What texts, numbers and lists JSON values spell (this project's own).
use Rattle.std.specs.Prelude.{ℕ, suc, ℤ, pos, negsuc, int_le, ◌&&◌, Bool, List, [], ◌∷◌, length, nat_le, Option, Some}
use Rattle.std.specs.Prelude.{None, option_and_then, if◌then◌else◌}
use Rattle.std.specs.Str.{chars}
use Rattle.serde_json.specs.Data.{Data, null, boolean, number, string, array, object, Items, no_items, item}
use Rattle.serde_json.specs.Find.{as_str, as_array, as_bool, as_number, as_i64}

-- a text that is there
abbrev pub any_text_in : Option Data → Option (List ℕ)
any_text_in o = option_and_then as_str o

abbrev pub text_of : ℕ → ℕ → Option (List ℕ) → Option (List ℕ)
text_of low high None = None
text_of low high (Some t) = if nat_le low (length t) && nat_le (length t) high then Some t else None

-- a text of low to high bytes that is there
abbrev pub text_in : ℕ → ℕ → Option Data → Option (List ℕ)
text_in low high o = text_of low high (any_text_in o)

-- a member that may be left out
abbrev pub optional : {A : Type 0} → (Data → Option A) → Option Data → Option (Option A)
optional f None = Some None
optional f (Some d) = option_and_then (λ a. Some (Some a)) (f d)

abbrev pub whole_of : Option ℤ → Option ℤ
whole_of None = None
whole_of (Some z) = if int_le (negsuc 65535) z && int_le z (pos 65536) then Some z else None

-- a whole number from -65,536 to 65,536 that is there
abbrev pub whole_in : Option Data → Option ℤ
whole_in o = whole_of (option_and_then as_i64 (option_and_then as_number o))

abbrev pub single : List ℕ → Option ℕ
single [] = None
single (c ∷ []) = Some c
single (c ∷ d ∷ cs) = None

-- a text of one character that is there
abbrev pub char_in : Option Data → Option ℕ
char_in o = option_and_then (λ t. single (chars t)) (any_text_in o)

abbrev pub bool_in : Option Data → Option Bool
bool_in o = option_and_then as_bool o

-- how many values an array has; all else has none
abbrev pub items_len : Items → ℕ
items_len no_items = 0
items_len (item d ds) = suc (items_len ds)

abbrev pub count_of : Data → ℕ
count_of null = 0
count_of (boolean b) = 0
count_of (number n) = 0
count_of (string s) = 0
count_of (array ds) = items_len ds
count_of (object ms) = 0

-- one in front of others, where all are there
abbrev pub with_first : {A : Type 0} → Option A → Option (List A) → Option (List A)
with_first None others = None
with_first (Some a) None = None
with_first (Some a) (Some others) = Some (a ∷ others)

-- what all values of an array spell, in their order
abbrev pub all_in : {A : Type 0} → (Data → Option A) → Items → Option (List A)
all_in f no_items = Some []
all_in f (item d ds) = with_first (f d) (all_in f ds)

abbrev pub array_of : {A : Type 0} → (Data → Option A) → Data → Option (List A)
array_of f d = option_and_then (all_in f) (as_array d)

-- an array of at most so many
abbrev pub list_of : {A : Type 0} → ℕ → (Data → Option A) → Data → Option (List A)
list_of most f d = if nat_le (count_of d) most then array_of f d else None

abbrev pub list_in : {A : Type 0} → ℕ → (Data → Option A) → Option Data → Option (List A)
list_in most f None = None
list_in most f (Some d) = list_of most f d

-- an array that may be left out
abbrev pub list_or_none : {A : Type 0} → ℕ → (Data → Option A) → Option Data → Option (List A)
list_or_none most f None = Some []
list_or_none most f (Some d) = list_of most f d
