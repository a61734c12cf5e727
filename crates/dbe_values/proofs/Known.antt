-- What is known of bytes and values that were read.
use Rattle.std.proofs.Common.{◌≡◌, ℕ, suc, ◌≢◌, List, [], ◌∷◌, Bool, true, false, None, Some, refl, ap, ◌∙◌, length}
use Rattle.std.proofs.Common.{if◌then◌else◌, String, Global}
use Rattle.std.specs.Str.{IsUtf8, is_utf8}
use Rattle.std.proofs.lemmas.Str.{is_utf8-from_IsUtf8, IsUtf8-from_is_utf8}
use Rattle.serde_json.specs.Data.{Members, no_members, member, Data, null, boolean, number, string, array, object}
use Rattle.serde_json.specs.Read.{read}
use Rattle.serde_json.specs.Find.{as_object}
use Rattle.serde_json.specs.View.{members_view}
use Rattle.serde_json.specs.Events.{members_len}
use Rattle.serde_json.specs.declared.value.Value.{Value}
use Rattle.dbe_values.specs.Reading.{single_of, single_member}
use Rattle.dbe_values.specs.Json.{json_of, size_of}

pub json_known : (bytes : List ℕ) (d : Data) → IsUtf8 bytes × (read bytes ≡ Some d) → json_of bytes ≡ Some d
json_known bytes d h = rw (is_utf8-from_IsUtf8 bytes h.0) h.1

none_at : (bytes : List ℕ) (b : Bool) → is_utf8 bytes ≡ b → (IsUtf8 bytes → read bytes ≡ None) →
    (if b then read bytes else None) ≡ None
none_at bytes true e h = h (IsUtf8-from_is_utf8 bytes e)
none_at bytes false e h = refl

pub json_none : (bytes : List ℕ) → (IsUtf8 bytes → read bytes ≡ None) → json_of bytes ≡ None
json_none bytes h = none_at bytes (is_utf8 bytes) refl h

some_same : (a b : Members) → Some a ≡ Some b → a ≡ b
some_same a b is = (cc)

pub members_len-view : (es : List (String Global × Value)) → members_len (members_view es) ≡ length es
members_len-view [] = refl
members_len-view (e ∷ es) = ap suc (members_len-view es)

pub size_of_object : (d : Data) (es : List (String Global × Value)) → as_object d ≡ Some (members_view es) →
    size_of d ≡ length es
size_of_object null es is = (cc)
size_of_object (boolean b) es is = (cc)
size_of_object (number n) es is = (cc)
size_of_object (string s) es is = (cc)
size_of_object (array ds) es is = (cc)
size_of_object (object ms) es is = ap members_len (some_same ms (members_view es) is) ∙ members_len-view es

pub size_of_other : (d : Data) → as_object d ≡ None → size_of d ≡ 0
size_of_other null is = refl
size_of_other (boolean b) is = refl
size_of_other (number n) is = refl
size_of_other (string s) is = refl
size_of_other (array ds) is = refl
size_of_other (object ms) is = (cc)

-- a value that is no object of one member
pub not_single : (d : Data) → size_of d ≢ 1 → None ≡ single_of d
not_single null h = refl
not_single (boolean b) h = refl
not_single (number n) h = refl
not_single (string s) h = refl
not_single (array ds) h = refl
not_single (object ms) h = not_one ms h
  where
    not_one : (ms : Members) → members_len ms ≢ 1 → None ≡ single_member ms
    not_one no_members h = refl
    not_one (member n d no_members) h = absurd (h refl)
    not_one (member n d (member m e ms)) h = refl
