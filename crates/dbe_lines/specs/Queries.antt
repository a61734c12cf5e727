-- What a query asks, as JSON spells it (this project's own).
use Rattle.std.specs.Prelude.{ℕ, ◌+◌, ◌==◌, ◌&&◌, Bool, true, false, List, [], ◌∷◌, codes, Option, Some, None}
use Rattle.std.specs.Prelude.{is_some, Result, Ok, Err, if◌then◌else◌}
use Rattle.serde_json.specs.Data.{Data, Members, no_members, member}
use Rattle.serde_json.specs.Find.{get, as_str, as_object}
use Rattle.dbe_tokens.specs.Token.{are_parts}
use Rattle.dbe_values.specs.Val.{Val}
use Rattle.dbe_values.specs.View.{attr_of}
use Rattle.dbe_values.specs.declared.value.AttrValue.{AttrValue}
use Rattle.dbe_values.specs.declared.fault.ValueFault.{ValueFault}
use Rattle.dbe_values.specs.declared.fault.ValueFault.TheVariants as fault
use Rattle.dbe_values.specs.Json.{size_of}
use Rattle.dbe_values.specs.Attributes.{is_name}
use Rattle.dbe_values.specs.Reading.{value_in}
use Rattle.dbe_lines.specs.declared.request.Query.{Query}

-- a sign, and at least one letter, digit or `_`
abbrev pub is_placeholder : ℕ → List ℕ → Bool
is_placeholder sign [] = false
is_placeholder sign (b ∷ bytes) = b == sign && are_parts bytes

-- members under placeholders
abbrev pub are_placeholders : ℕ → Members → Bool
are_placeholders sign no_members = true
are_placeholders sign (member name d ms) = is_placeholder sign name && are_placeholders sign ms

-- members that are texts
abbrev pub are_texts : Members → Bool
are_texts no_members = true
are_texts (member name d ms) = is_some (as_str d) && are_texts ms

-- the members of an object that may be absent, and none where something else stands there
abbrev pub members_in : Option Data → Option Members
members_in None = Some no_members
members_in (Some d) = as_object d

-- texts under `#` placeholders
abbrev pub names_have_form : Option Members → Bool
names_have_form None = false
names_have_form (Some ms) = are_placeholders 35 ms && are_texts ms

-- members under `:` placeholders
abbrev pub values_have_form : Option Members → Bool
values_have_form None = false
values_have_form (Some ms) = are_placeholders 58 ms

-- one for a member that is there
abbrev pub one_where : Option Data → ℕ
one_where None = 0
one_where (Some d) = 1

-- the text of a member that is there
abbrev pub text_in : Option Data → Option (List ℕ)
text_in None = None
text_in (Some d) = as_str d

-- An object with the text `condition`, and maybe `names`, texts under `#` placeholders, and `values`, members under `:`
-- placeholders; it has no other member.
abbrev pub has_form : Data → Bool
has_form d =
    size_of d == one_where (get (codes "names") d) + one_where (get (codes "values") d) + 1
    && is_some (text_in (get (codes "condition") d))
    && names_have_form (members_in (get (codes "names") d))
    && values_have_form (members_in (get (codes "values") d))

-- a text, empty where there is none
abbrev pub or_empty : Option (List ℕ) → List ℕ
or_empty None = []
or_empty (Some text) = text

-- members, none where there is no object
abbrev pub or_none : Option Members → Members
or_none None = no_members
or_none (Some ms) = ms

-- a placeholder, and why what stands under it is refused
abbrev pub Faulty : Type 0
Faulty = List ℕ × ValueFault

-- an entry before others, or the first fault
abbrev pub then_entry : {A : Type 0} → List ℕ → Result A ValueFault → Result (List (List ℕ × A)) Faulty →
    Result (List (List ℕ × A)) Faulty
then_entry name (Err why) others = Err (name, why)
then_entry name (Ok a) (Err f) = Err f
then_entry name (Ok a) (Ok others) = Ok ((name, a) ∷ others)

-- a name has 1 to 255 bytes
abbrev pub name_in : Data → Result (List ℕ) ValueFault
name_in d = if is_name (or_empty (as_str d)) then Ok (or_empty (as_str d)) else Err fault.BadName

-- the names under placeholders, or the first fault
abbrev pub names_in : Members → Result (List (List ℕ × List ℕ)) Faulty
names_in no_members = Ok []
names_in (member name d ms) = then_entry name (name_in d) (names_in ms)

-- a value as contracts of dbe_values give it
abbrev pub seen_as : Result Val ValueFault → Result AttrValue ValueFault
seen_as (Ok v) = Ok (attr_of v)
seen_as (Err why) = Err why

-- a value that stands in no list or map
abbrev pub attr_in : Data → Result AttrValue ValueFault
attr_in d = seen_as (value_in 32 d)

-- the values under placeholders, or the first fault
abbrev pub values_in : Members → Result (List (List ℕ × AttrValue)) Faulty
values_in no_members = Ok []
values_in (member name d ms) = then_entry name (attr_in d) (values_in ms)

-- a query of a text, names and values, or the first fault
abbrev pub asked_with : List ℕ → Result (List (List ℕ × List ℕ)) Faulty → Result (List (List ℕ × AttrValue)) Faulty →
    Result Query Faulty
asked_with text (Err f) values = Err f
asked_with text (Ok names) (Err f) = Err f
asked_with text (Ok names) (Ok values) = Ok (record { text = text; names = names; values = values })

-- What is asked, or the first placeholder at which there is a fault: those of `names` come before those of `values`,
-- each in order of their bytes.
abbrev pub asked_in : Data → Result Query Faulty
asked_in d =
    asked_with (or_empty (text_in (get (codes "condition") d)))
    (names_in (or_none (members_in (get (codes "names") d))))
    (values_in (or_none (members_in (get (codes "values") d))))
