-- The reply to a line, and the rows after it (this project's own).
use Rattle.std.specs.Prelude.{◌≡◌, ◌≢◌, ℕ, ◌+◌, Bool, true, false, not, ◌&&◌, ◌||◌, if◌then◌else◌, List, [], ◌∷◌, ◌++◌}
use Rattle.std.specs.Prelude.{Option, Some, None, is_none, option_map, Result, Ok, Err, length, map, filter, codes}
use Rattle.std.specs.List.{list_any}
use Rattle.dbe_values.specs.declared.key.KeyValue.{KeyValue}
use Rattle.dbe_values.specs.KeyValues.{key_view}
use Rattle.dbe_config.specs.Setting.{Setting}
use Rattle.dbe_config.specs.Rules.{is_empty_list}
use Rattle.dbe_item.specs.Acceptance.{put_fault, first_name}
use Rattle.dbe_item.specs.declared.fault.PutFault.{PutFault}
use Rattle.dbe_item.specs.declared.open_fault.OpenFault.{OpenFault}
use Rattle.dbe_item.specs.declared.unsealing.Opened.{Opened}
use Rattle.dbe_item.specs.Unsealed.{IsOpening}
use Rattle.dbe_item.specs.Sealed.{draw_length, sealed_row}
use Rattle.dbe_item.specs.Names.{is_beacon_name}
use Rattle.dbe_fields.specs.Plain.{is_computed}
use Rattle.dbe_fields.specs.Extended.{extended}
use Rattle.dbe_fields.specs.Split.{split_at}
use Rattle.dbe_cond.specs.Condition.{Condition}
use Rattle.dbe_cond.specs.Meaning.{holds}
use Rattle.dbe_cond.specs.Names.{names_of, first_with}
use Rattle.dbe_cond.specs.Reading.{Reads, Refuses}
use Rattle.dbe_cond.specs.Printed.{printed_text, printed_names, printed_values}
use Rattle.dbe_cond.specs.declared.fault.CondFault.{CondFault}
use Rattle.dbe_cond.specs.declared.fault.CondFault.TheVariants as c
use Rattle.dbe_table.specs.Rows.{Row, put_row, row_at, found_count}
use Rattle.dbe_lines.specs.Requests.{request_of, HasLawfulItem}
use Rattle.dbe_lines.specs.Texts.{put_text, none_text, item_text, checked_text, select_text, split_text, every_text}
use Rattle.dbe_lines.specs.Texts.{item_refusal, is_large_row}
use Rattle.dbe_lines.specs.Texts.{condition_text, refused_text, refused_name, refused_name_for, value_word}
use Rattle.dbe_lines.specs.Texts.{put_refusal, cond_refusal, rewrite_refusal}
use Rattle.dbe_lines.specs.declared.request.Query.{Query}
use Rattle.dbe_lines.specs.declared.request.Request.{Request}
use Rattle.dbe_lines.specs.declared.request.Request.TheVariants as r
use Rattle.dbe_lines.specs.declared.fault.RewriteFault.{RewriteFault}
use Rattle.dbe_lines.specs.declared.fault.RewriteFault.TheVariants.{NotSearchable}

-- what is fixed in a run
pub record Environment : Type 0 where
  pub config : Setting

-- the environment of a configuration
abbrev pub in_config : Setting → Environment
in_config c = record { config = c }

-- what passes from line to line
pub record State : Type 0 where
  pub rows : List Row

-- What the reply to a line rests on beside the state: the condition that its query reads as, or why it reads as none;
-- what the row of its key opens to, or why it does not; and the bytes that were drawn. What is explained is a query
-- too.
pub record Facts : Type 0 where
  pub reading : Result Condition CondFault
  pub opening : Result Opened OpenFault
  pub drawn : List ℕ

-- a line of the script, and what its reply rests on
pub record Turn : Type 0 where
  pub line : List ℕ
  pub facts : Facts

-- what is written, the state after it, how many rows the table returned, and the drawn bytes that were used
pub record Reply : Type 0 where
  pub text : List ℕ
  pub state : State
  pub given : ℕ
  pub drawn : List ℕ

-- a query's text reads so
abbrev pub IsReading : Query → Result Condition CondFault → Type 0
IsReading q (Ok cond) = Reads q.text q.names q.values cond
IsReading q (Err fault) = (fault ≢ c.Memory) × Refuses q.text q.names q.values fault

-- the reading of a request's query; a request of another kind has none
abbrev pub IsReadingOf : Request → Result Condition CondFault → Type 0
IsReadingOf (r.Query q) reading = IsReading q reading
IsReadingOf (r.Explain q) reading = IsReading q reading
IsReadingOf r.NotJson reading = Unit {0}
IsReadingOf r.Shape reading = Unit {0}
IsReadingOf (r.Value name why) reading = Unit {0}
IsReadingOf (r.Key name) reading = Unit {0}
IsReadingOf r.NotBuilt reading = Unit {0}
IsReadingOf (r.Put item) reading = Unit {0}
IsReadingOf (r.Get key) reading = Unit {0}
IsReadingOf (r.Check key) reading = Unit {0}

-- the row of a key
abbrev pub row_of : Environment → State → KeyValue → Option Row
row_of e s key = row_at e.config.schema (key_view key) s.rows

-- what a row that was found opens to
abbrev pub IsOpeningOf : Setting → Option Row → Result Opened OpenFault → Type 0
IsOpeningOf c None opening = Unit {0}
IsOpeningOf c (Some row) opening = IsOpening c row opening

-- what the row of a request's key opens to; a request of another kind opens no row
abbrev pub IsOpeningFor : Environment → State → Request → Result Opened OpenFault → Type 0
IsOpeningFor e s (r.Get key) opening = IsOpeningOf e.config (row_of e s key) opening
IsOpeningFor e s (r.Check key) opening = IsOpeningOf e.config (row_of e s key) opening
IsOpeningFor e s r.NotJson opening = Unit {0}
IsOpeningFor e s r.Shape opening = Unit {0}
IsOpeningFor e s (r.Value name why) opening = Unit {0}
IsOpeningFor e s (r.Key name) opening = Unit {0}
IsOpeningFor e s r.NotBuilt opening = Unit {0}
IsOpeningFor e s (r.Put item) opening = Unit {0}
IsOpeningFor e s (r.Query q) opening = Unit {0}
IsOpeningFor e s (r.Explain q) opening = Unit {0}

-- how many bytes are drawn to store an item: over a plain table none
abbrev pub stored_draws : Setting → ℕ
stored_draws c = if is_empty_list c.recipients then 0 else draw_length c

-- how many bytes are drawn for a put, by its refusals
abbrev pub put_draws : Setting → Option PutFault → Option (List ℕ × List ℕ) → ℕ
put_draws c (Some fault) split = 0
put_draws c None (Some at) = 0
put_draws c None None = stored_draws c

-- how many bytes are drawn for a request: for a put that is not refused those that sealing takes, else none
abbrev pub draws_for : Setting → Request → ℕ
draws_for c (r.Put item) = put_draws c (put_fault c item) (split_at c item)
draws_for c r.NotJson = 0
draws_for c r.Shape = 0
draws_for c (r.Value name why) = 0
draws_for c (r.Key name) = 0
draws_for c r.NotBuilt = 0
draws_for c (r.Get key) = 0
draws_for c (r.Check key) = 0
draws_for c (r.Query q) = 0
draws_for c (r.Explain q) = 0

-- what the reply to a request rests on; an item that is put is lawful
pub record AreFacts (e : Environment) (s : State) (request : Request) (facts : Facts) : Type 0 where
  pub lawful : HasLawfulItem request
  pub reading : IsReadingOf request facts.reading
  pub opening : IsOpeningFor e s request facts.opening
  pub drawn : length facts.drawn ≡ draws_for e.config request

-- a reply that leaves the state, and for which no bytes are drawn
abbrev pub answer : State → List ℕ → ℕ → Reply
answer s text given = record { text = text; state = s; given = given; drawn = [] }

-- the row that is stored for an item; it has no beacon attributes yet
abbrev pub stored_row : Setting → List ℕ → Row → Row
stored_row c drawn item = if is_empty_list c.recipients then item else sealed_row c drawn [] item

-- a sealed row whose text is too long is not stored; the text of a plain row is not measured
abbrev pub is_refused_row : Setting → Row → Bool
is_refused_row c row = not (is_empty_list c.recipients) && is_large_row row

-- a row is stored, or refused
abbrev pub stored_reply : Environment → State → List ℕ → Row → Bool → Reply
stored_reply e s drawn row true = record {
  text = refused_text (codes "size");
  state = s;
  given = 0;
  drawn = drawn;
}
stored_reply e s drawn row false = record {
  text = put_text;
  state =
      record { rows = put_row e.config.schema row s.rows };
  given = 0;
  drawn = drawn;
}

-- what becomes of the row of an item
abbrev pub row_reply : Environment → State → List ℕ → Row → Reply
row_reply e s drawn row = stored_reply e s drawn row (is_refused_row e.config row)

-- an item is put, or refused
abbrev pub put_reply : Environment → State → List ℕ → Row → Option PutFault → Option (List ℕ × List ℕ) → Reply
put_reply e s drawn item (Some fault) split = answer s (put_refusal fault) 0
put_reply e s drawn item None (Some at) = answer s (split_text at) 0
put_reply e s drawn item None None = row_reply e s drawn (stored_row e.config drawn item)

-- what is written of a row: the item that it opens to, or why it opens to none
abbrev pub opened_text : Setting → KeyValue → Result Opened OpenFault → List ℕ
opened_text c key (Ok opened) = item_text opened.item
opened_text c key (Err fault) = item_refusal c.schema key fault

-- the item of a row that was found
abbrev pub found_text : Setting → KeyValue → Result Opened OpenFault → Option Row → List ℕ
found_text c key opening None = none_text
found_text c key opening (Some row) = opened_text c key opening

-- the place of the encrypted data key that opened a row; a plain row has none
abbrev pub opened_by : Setting → Opened → Option ℕ
opened_by c opened = if is_empty_list c.recipients then None else Some opened.recipient

-- whether a row has the beacon attributes of its item, which are none yet; a plain row needs none
abbrev pub has_its_beacons : Setting → Row → Bool
has_its_beacons c row = is_empty_list c.recipients || is_none (first_name is_beacon_name row)

-- what a check tells of a row: how it opened, or why it does not open
abbrev pub checked_row : Setting → KeyValue → Result Opened OpenFault → Row → List ℕ
checked_row c key (Ok opened) row =
    checked_text (has_its_beacons c row) opened.encrypted (opened_by c opened) opened.signed
checked_row c key (Err fault) row = item_refusal c.schema key fault

-- what a check tells of a row that was found
abbrev pub check_text : Setting → KeyValue → Result Opened OpenFault → Option Row → List ℕ
check_text c key opening None = none_text
check_text c key opening (Some row) = checked_row c key opening row

-- whether a virtual field or a compound stands in a condition
abbrev pub has_computed : Setting → Condition → Bool
has_computed st cond = list_any (is_computed st) (names_of cond)

-- whether a condition holds of an item with its virtual fields and compounds
abbrev pub selects : Setting → Condition → Row → Bool
selects st cond item = holds cond (extended st item)

-- the rows that the table is asked for: every row where a virtual field or a compound stands in the condition, else
-- those of which it holds
abbrev pub handed_out : Environment → State → Condition → List Row
handed_out e s cond = if has_computed e.config cond then s.rows else filter (holds cond) s.rows

-- of the rows that the table returned, those that the condition selects
abbrev pub selection_text : Environment → State → Condition → List Row → List ℕ
selection_text e s cond found = select_text (filter (selects e.config cond) found) (length found)

-- the reply to a query whose condition was read
abbrev pub query_reply : Environment → State → Condition → Reply
query_reply e s cond = answer s (selection_text e s cond (handed_out e s cond)) (length (handed_out e s cond))

-- what the table would be asked for: every row, or those of which the condition holds
abbrev pub explained_text : Environment → State → Condition → List ℕ
explained_text e s cond = if has_computed e.config cond then every_text else condition_text (printed_text cond)
    (printed_names cond) (printed_values cond)

-- the reply to an explain whose condition was read
abbrev pub explain_reply : Environment → State → Condition → Reply
explain_reply e s cond = answer s (explained_text e s cond) 0

-- the first name of a condition that dbe keeps for itself
abbrev pub reserved_in : Condition → Option (List ℕ)
reserved_in cond = first_with (codes "aws_dbe_") (names_of cond)

-- why the table is not asked for a condition: a name in it that dbe keeps for itself is not searched
abbrev pub refused_in : Environment → State → Condition → Option RewriteFault
refused_in e s cond = option_map NotSearchable (reserved_in cond)

-- the refusal of a condition, or else a reply
abbrev pub unless_refused : State → Option RewriteFault → Reply → Reply
unless_refused s (Some fault) reply = answer s (rewrite_refusal fault) 0
unless_refused s None reply = reply

-- the reply to a condition that was read, or why there is none
abbrev pub asked_reply : Environment → State → (Condition → Reply) → Result Condition CondFault → Reply
asked_reply e s reply_for (Err fault) = answer s (cond_refusal fault) 0
asked_reply e s reply_for (Ok cond) = unless_refused s (refused_in e s cond) (reply_for cond)

-- the reply to a request, which rests on these facts
abbrev pub reply_by : Environment → State → Request → Facts → Reply
reply_by e s r.NotJson facts = answer s (refused_text (codes "json")) 0
reply_by e s r.Shape facts = answer s (refused_text (codes "shape")) 0
reply_by e s r.NotBuilt facts = answer s (refused_text (codes "not built")) 0
reply_by e s (r.Value name why) facts = answer s (refused_name_for (codes "value") (value_word why) name) 0
reply_by e s (r.Key name) facts = answer s (refused_name (codes "key") name) 0
reply_by e s (r.Put item) facts = put_reply e s facts.drawn item (put_fault e.config item) (split_at e.config item)
reply_by e s (r.Get key) facts =
    answer s (found_text e.config key facts.opening (row_of e s key)) (found_count (row_of e s key))
reply_by e s (r.Check key) facts =
    answer s (check_text e.config key facts.opening (row_of e s key)) (found_count (row_of e s key))
reply_by e s (r.Query q) facts = asked_reply e s (query_reply e s) facts.reading
reply_by e s (r.Explain q) facts = asked_reply e s (explain_reply e s) facts.reading

-- an empty line has no reply
abbrev pub reply_in : Environment → State → List ℕ → Facts → Reply
reply_in e s [] facts = answer s [] 0
reply_in e s (b ∷ bytes) facts = reply_by e s (request_of e.config (b ∷ bytes)) facts

-- the reply to a turn
abbrev pub reply_to : Environment → State → Turn → Reply
reply_to e s turn = reply_in e s turn.line turn.facts

-- the facts of a turn are those of its line
abbrev pub IsTurn : Environment → State → Turn → Type 0
IsTurn e s turn = AreFacts e s (request_of e.config turn.line) turn.facts

-- turns, each from the state that the one before it left
abbrev pub AreTurns : Environment → State → List Turn → Type 0
AreTurns e s [] = Unit {0}
AreTurns e s (turn ∷ turns) = IsTurn e s turn × AreTurns e (reply_to e s turn).state turns

-- the replies to turns, one after another
abbrev pub run : Environment → State → List Turn → Reply
run e s [] = answer s [] 0
run e s (turn ∷ turns) = record {
  text = (reply_to e s turn).text ++ (run e (reply_to e s turn).state turns).text;
  state = (run e (reply_to e s turn).state turns).state;
  given = (reply_to e s turn).given + (run e (reply_to e s turn).state turns).given;
  drawn = (reply_to e s turn).drawn ++ (run e (reply_to e s turn).state turns).drawn;
}

-- the reply to each turn
abbrev pub replies_in : Environment → State → List Turn → List (List ℕ)
replies_in e s [] = []
replies_in e s (turn ∷ turns) = (reply_to e s turn).text ∷ replies_in e (reply_to e s turn).state turns

-- the lines of turns
abbrev pub lines_in : List Turn → List (List ℕ)
lines_in turns = map (λ t. t.line) turns
