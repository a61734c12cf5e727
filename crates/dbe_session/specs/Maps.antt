-- Items under their keys as a map, what a script makes of it, and which rows stand for it (this project's own).
use Rattle.std.specs.Prelude.{◌≡◌, ℕ, List, [], ◌∷◌, ◌++◌, None, Result, Ok, Err, filter, length, bytes_eq}
use Rattle.std.specs.Prelude.{if◌then◌else◌}
use Rattle.std.specs.List.{All}
use Rattle.std.specs.Ordering.{is_lt}
use Rattle.std.specs.declared.alloc.Global.{Global}
use Rattle.std.specs.declared.vec.Vec.{Vec}
use Rattle.dbe_values.specs.declared.value.AttrValue.{AttrValue}
use Rattle.dbe_values.specs.declared.key.KeySchema.{KeySchema}
use Rattle.dbe_values.specs.Keys.{row_order}
use Rattle.dbe_values.specs.Lawful.{IsLawfulItem}
use Rattle.dbe_item.specs.Acceptance.{put_fault}
use Rattle.dbe_item.specs.Stands.{StandsFor}
use Rattle.dbe_item.specs.Ruled.{IsSealing}
use Rattle.dbe_fields.specs.Extended.{extended}
use Rattle.dbe_fields.specs.Split.{split_at}
use Rattle.dbe_cond.specs.Condition.{Condition}
use Rattle.dbe_cond.specs.Meaning.{holds}
use Rattle.dbe_cond.specs.Reading.{Reads}
use Rattle.dbe_table.specs.Rows.{IsTable}
use Rattle.dbe_lines.specs.Requests.{request_of}
use Rattle.dbe_session.specs.Reply.{Environment, State, refused_in, handed_out}
use Rattle.dbe_lines.specs.Texts.{put_text, select_text}
use Rattle.dbe_lines.specs.declared.request.Query.{Query}
use Rattle.dbe_lines.specs.declared.request.Request.{Request}
use Rattle.dbe_lines.specs.declared.request.Request.TheVariants as r
use Rattle.dbe_session.specs.declared.session.StepFault.{StepFault}

-- a map from keys to items, as the list of its items
abbrev pub Items : Type 0
Items = List (List (List ℕ × AttrValue))

-- the map with an item at its key: the items of smaller keys, the item, and those of greater keys
abbrev pub put_item : KeySchema → List (List ℕ × AttrValue) → Items → Items
put_item schema item m = filter (λ other. is_lt (row_order schema other item)) m ++ item ∷ filter
    (λ other. is_lt (row_order schema item other)) m

-- the map after a request: a put puts its item
abbrev pub with_request : KeySchema → Items → Request → Items
with_request schema m (r.Put item) = put_item schema item m
with_request schema m r.NotJson = m
with_request schema m r.Shape = m
with_request schema m (r.Value name why) = m
with_request schema m (r.Key name) = m
with_request schema m r.NotBuilt = m
with_request schema m (r.Get key) = m
with_request schema m (r.Check key) = m
with_request schema m (r.Query q) = m
with_request schema m (r.Explain q) = m

-- The map after a line that got this reply: a put that was answered with ok puts its item, and every other line
-- leaves the map.
abbrev pub after_line : Environment → Items → List ℕ → List ℕ → Items
after_line e m line reply = if bytes_eq reply put_text then with_request e.config.schema m (request_of e.config line)
    else m

-- the map after a line, by what its step answered: a line that got no reply leaves the map
abbrev pub after_step : Environment → Items → List ℕ → Result (Vec ℕ Global) StepFault → Items
after_step e m line (Ok text) = after_line e m line text.items
after_step e m line (Err fault) = m

-- the map after lines that got these replies
abbrev pub After : Environment → Items → List (List ℕ) → List (List ℕ) → Items
After e m [] replies = m
After e m (line ∷ lines) [] = m
After e m (line ∷ lines) (reply ∷ replies) = After e (after_line e m line reply) lines replies

-- the items of which a condition holds, each with its virtual fields and compounds, in key order
abbrev pub select_of : Environment → Condition → Items → Items
select_of e cond m = filter (λ item. holds cond (extended e.config item)) m

-- The line asks a query whose text reads as this condition, and the condition is not refused.
pub record Asks (e : Environment) (s : State) (line : List ℕ) (cond : Condition) : Type 0 where
  pub query : Query
  pub is_query : request_of e.config line ≡ r.Query query
  pub reads : Reads query.text query.names query.values cond
  pub not_refused : refused_in e s cond ≡ None

-- A query's reply is a line for each item of the map of which its condition holds, in key order, and then the line
-- that counts them and the rows that the table returned: every row of the state where a virtual field or a compound
-- stands in the condition, else those of which it holds.
abbrev pub IsAnswer : Environment → State → Items → List ℕ → List ℕ → Type 0
IsAnswer e s m line reply = (cond : Condition) → Asks e s line cond →
    reply ≡ select_text (select_of e cond m) (length (handed_out e s cond))

-- A row stands for an item; the item's beacon attributes are none yet.
abbrev pub IsRowOf : Environment → State → List (List ℕ × AttrValue) → List (List ℕ × AttrValue) → Type 0
IsRowOf e s row item = StandsFor e.config [] row item

-- rows stand for items, one for each and in their order
abbrev pub AreRows : Environment → State → Items → Items → Type 0
AreRows e s [] [] = Unit {0}
AreRows e s [] (item ∷ items) = ⊥
AreRows e s (row ∷ rows) [] = ⊥
AreRows e s (row ∷ rows) (item ∷ items) = IsRowOf e s row item × AreRows e s rows items

-- An item may be stored: its values and names are lawful, it has none of the faults of a put, and no used part of a
-- compound has its split character.
pub record IsAcceptable (e : Environment) (item : List (List ℕ × AttrValue)) : Type 0 where
  pub lawful : IsLawfulItem item
  pub accepted : put_fault e.config item ≡ None
  pub unsplit : split_at e.config item ≡ None

-- The state stands for a map of acceptable items: it has one row for each key, in key order.
pub record Stands (e : Environment) (state : State) (m : Items) : Type 0 where
  pub is_map : IsTable e.config.schema m
  pub acceptable : All (IsAcceptable e) m
  pub are_rows : AreRows e state state.rows m

-- The keys that the rows of a map need are at hand: those of a configuration's recipients.
abbrev pub HasKeys : Environment → Type 0
HasKeys e = IsSealing e.config
