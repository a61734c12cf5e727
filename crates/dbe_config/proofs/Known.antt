-- What is known of JSON values that were read.
use Rattle.std.proofs.Common.{◌≡◌, ℕ, suc, List, [], ◌∷◌, true, false, None, Some, refl, ap, ◌∙◌, length, is_some}
use Rattle.std.proofs.Common.{◌&&◌, nat_le, arith, if◌then◌else◌}
use Rattle.std.specs.declared.option.Option.{Option}
use Rattle.std.specs.Option.{option_and_then}
use Rattle.std.specs.Prelude.{encode_utf8, ◌++◌}
use Rattle.std.specs.Str.{chars, IsUtf8}
use Rattle.std.proofs.lemmas.Str.{chars_past_char, IsUtf8-past_char, chars-nil}
use Rattle.serde_json.specs.Data.{Num, unsigned, negative, float, Data, null, boolean, number, string, array, object}
use Rattle.serde_json.specs.Data.{Items}
use Rattle.serde_json.specs.Find.{as_array, as_u64, as_i64}
use Rattle.serde_json.specs.View.{items_view}
use Rattle.serde_json.specs.declared.value.Value.{Value}
use Rattle.dbe_config.specs.Spelling.{items_len, count_of, single}
use Rattle.dbe_config.specs.Shape.{length_of}

some_same : (a b : Items) → Some a ≡ Some b → a ≡ b
some_same a b is = (cc)

items_len-view : (vs : List Value) → items_len (items_view vs) ≡ length vs
items_len-view [] = refl
items_len-view (v ∷ vs) = ap suc (items_len-view vs)

pub count_of_array : (d : Data) (vs : List Value) → as_array d ≡ Some (items_view vs) → count_of d ≡ length vs
count_of_array null vs is = (cc)
count_of_array (boolean b) vs is = (cc)
count_of_array (number n) vs is = (cc)
count_of_array (string s) vs is = (cc)
count_of_array (array ds) vs is = ap items_len (some_same ds (items_view vs) is) ∙ items_len-view vs
count_of_array (object ms) vs is = (cc)

pub count_of_other : (d : Data) → as_array d ≡ None → count_of d ≡ 0
count_of_other null is = refl
count_of_other (boolean b) is = refl
count_of_other (number n) is = refl
count_of_other (string s) is = refl
count_of_other (array ds) is = (cc)
count_of_other (object ms) is = refl

-- a number that was read as a u64
pub length_unsigned : (n : Option Num) (m : ℕ) → option_and_then as_u64 n ≡ Some m →
    option_and_then length_of n ≡ (if nat_le 1 m && nat_le m 63 then Some m else Some 0)
length_unsigned None m is = (cc)
length_unsigned (Some (unsigned k)) m is = let same : k ≡ m = (cc) in
    ap (λ k. if nat_le 1 k && nat_le k 63 then Some k else Some 0) same
length_unsigned (Some (negative z)) m is = (cc)
length_unsigned (Some (float x)) m is = (cc)

pub length_negative : (n : Option Num) → option_and_then as_u64 n ≡ None → is_some (option_and_then as_i64 n) ≡ true →
    option_and_then length_of n ≡ Some 0
length_negative None none some = (cc)
length_negative (Some (unsigned k)) none some = (cc)
length_negative (Some (negative z)) none some = refl
length_negative (Some (float x)) none some = (cc)

pub length_none : (n : Option Num) → option_and_then as_u64 n ≡ None → is_some (option_and_then as_i64 n) ≡ false →
    option_and_then length_of n ≡ None
length_none None none some = refl
length_none (Some (unsigned k)) none some = (cc)
length_none (Some (negative z)) none some = (cc)
length_none (Some (float x)) none some = refl

-- two characters at the front of a text are more than one
pub single_two : (bs rest others : List ℕ) (c d : ℕ) → IsUtf8 bs → bs ≡ encode_utf8 c ++ rest →
    rest ≡ encode_utf8 d ++ others → None ≡ single (chars bs)
single_two bs rest others c d text is more =
    let first : chars bs ≡ c ∷ chars rest = chars_past_char bs rest c text is in
    let second : chars rest ≡ d ∷ chars others = chars_past_char rest others d (IsUtf8-past_char bs rest c text is)
    more in
    rw (first, second) refl

single_nil : (c : ℕ) (rest : List ℕ) → length rest ≡ 0 → Some c ≡ single (c ∷ chars rest)
single_nil c [] none = rw chars-nil refl
single_nil c (b ∷ rest) none = absurd (omega arith)

pub single_one : (bs rest : List ℕ) (c : ℕ) → IsUtf8 bs → bs ≡ encode_utf8 c ++ rest → length rest ≡ 0 →
    Some c ≡ single (chars bs)
single_one bs rest c text is none =
    let first : chars bs ≡ c ∷ chars rest = chars_past_char bs rest c text is in
    rw first (single_nil c rest none)
