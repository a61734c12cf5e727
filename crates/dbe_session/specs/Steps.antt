-- What one line does to the objects that a session is given (this project's own).
use Rattle.std.specs.Prelude.{◌≡◌, ◌⊎◌, ℕ, false, List, Some, None, length}
use Rattle.std.specs.declared.option.Option.{Option}
use Rattle.std.specs.Io.KnownBytes.{Consumes, Keeps}
use Rattle.dbe_config.specs.Setting.{Setting}
use Rattle.dbe_config.specs.Rules.{is_among}
use Rattle.dbe_cond.specs.Condition.{Condition, condition_of, and, none}
use Rattle.dbe_cond.specs.Names.{names_of}
use Rattle.dbe_cond.specs.declared.wanted.Wanted.{Wanted}
use Rattle.dbe_cond.specs.declared.wanted.Wanted.TheVariants as w
use Rattle.dbe_table.specs.Rows.{Row, risen}
use Rattle.dbe_session.specs.Reply.{Environment, State, Facts, Turn, Reply, AreFacts, IsTurn, IsReadingOf, has_computed}
use Rattle.dbe_session.specs.Reply.{stored_draws, stored_row, row_reply, reply_by, reply_to}
use Rattle.dbe_lines.specs.Requests.{request_of}
use Rattle.dbe_lines.specs.declared.request.Request.{Request}

-- a session, as those who call it see it
pub record SessionView : Type 0 where
  pub config : Setting

-- what the objects that a step is given tell
pub record Told : Type 0 where
  pub rows : Option (List Row)  -- the rows of the table
  pub given : ℕ  -- how many rows it has returned
  pub lines : Option (List ℕ)  -- the branch lines that are written
  pub dice : Option (List ℕ)  -- the bytes that are still to be drawn
  pub asked : ℕ  -- how often the key service was asked

-- what a table and dice tell; no other object is handed in
abbrev pub told : Option (List Row) → ℕ → Option (List ℕ) → Told
told rows given dice = record { rows = rows; given = given; lines = None; dice = dice; asked = 0 }

-- a session and the objects that it is given tell this environment and this state
pub record IsState (session : SessionView) (objects : Told) (e : Environment) (s : State) : Type 0 where
  pub config : session.config ≡ e.config
  pub rows : objects.rows ≡ Some s.rows

-- told bytes to be drawn stay, or lose those that a put draws
abbrev pub DrawsAtMost : Setting → Option (List ℕ) → Option (List ℕ) → Type 0
DrawsAtMost c old new = Keeps old new ⊎ ((drawn : List ℕ) × (length drawn ≡ stored_draws c) × Consumes old new drawn)

-- an item that may be stored got its reply
pub record Stored (e : Environment) (s : State) (item : Row) (text : List ℕ) (old new : Told) : Type 0 where
  pub drawn : List ℕ
  pub are_drawn : length drawn ≡ stored_draws e.config
  pub is_text : text ≡ (row_reply e s drawn (stored_row e.config drawn item)).text
  pub are_rows : new.rows ≡ Some (row_reply e s drawn (stored_row e.config drawn item)).state.rows
  pub dice : Consumes old.dice new.dice drawn

-- The request got its reply: the objects tell the state after it, the table has returned so many rows more, and the
-- drawn bytes were the next of the dice.
pub record RequestAnswered (e : Environment) (s : State) (request : Request) (text : List ℕ) (old new : Told) : Type 0
  where
    pub facts : Facts
    pub are_facts : AreFacts e s request facts
    pub is_text : text ≡ (reply_by e s request facts).text
    pub are_rows : new.rows ≡ Some (reply_by e s request facts).state.rows
    pub given : new.given ≡ risen old.given (reply_by e s request facts).given
    pub dice : Consumes old.dice new.dice (reply_by e s request facts).drawn

-- The request got no reply. The rows are as before, no more were returned than with its reply, and no bytes
-- were drawn, or those that storing an item takes.
pub record RequestUnanswered (e : Environment) (s : State) (request : Request) (old new : Told) : Type 0 where
  pub same_rows : new.rows ≡ Some s.rows
  pub given : (new.given ≡ old.given) ⊎ ((facts : Facts) × IsReadingOf request facts.reading ×
      (new.given ≡ risen old.given (reply_by e s request facts).given))
  pub dice : DrawsAtMost e.config old.dice new.dice

-- what was written is this reply, and so many rows as it has were returned more
pub record IsReply (reply : Reply) (text : List ℕ) (before after : ℕ) : Type 0 where
  pub is_text : text ≡ reply.text
  pub given : after ≡ risen before reply.given

-- no rows were returned more, or as many as a reply has
abbrev pub IsGivenBy : Reply → ℕ → ℕ → Type 0
IsGivenBy reply before after = (after ≡ before) ⊎ (after ≡ risen before reply.given)

-- rows are wanted for a condition
abbrev pub IsOnly : Wanted → Type 0
IsOnly (w.Only cond) = Unit {0}
IsOnly w.Every = ⊥

-- the condition of wanted rows; an empty AND holds of every row
abbrev pub only_of : Wanted → Condition
only_of (w.Only cond) = condition_of cond
only_of w.Every = and none

-- The names by whose values a condition is judged: all that stand in it, or none where no virtual field and no
-- compound does.
abbrev pub IsAskedBy : Setting → Condition → Option (List (List ℕ)) → Type 0
IsAskedBy st cond None = has_computed st cond ≡ false
IsAskedBy st cond (Some names) = (name : List ℕ) → is_among name names ≡ is_among name (names_of cond)

-- The line got its reply: the objects tell the state after it, the table has returned so many rows more, and the drawn
-- bytes were the next of the dice.
pub record Answered (e : Environment) (s : State) (line text : List ℕ) (old new : Told) : Type 0 where
  pub turn : Turn
  pub is_line : turn.line ≡ line
  pub is_turn : IsTurn e s turn
  pub is_text : text ≡ (reply_to e s turn).text
  pub are_rows : new.rows ≡ Some (reply_to e s turn).state.rows
  pub given : new.given ≡ risen old.given (reply_to e s turn).given
  pub dice : Consumes old.dice new.dice (reply_to e s turn).drawn

-- a turn of a line whose query reads so, whatever its row opens to and whatever is drawn
pub record IsReadTurn (e : Environment) (line : List ℕ) (turn : Turn) : Type 0 where
  pub is_line : turn.line ≡ line
  pub reading : IsReadingOf (request_of e.config line) turn.facts.reading

-- The line got no reply. The rows are as before, no more were returned than with its reply, and no bytes
-- were drawn, or those that storing an item takes.
pub record Unanswered (e : Environment) (s : State) (line : List ℕ) (old new : Told) : Type 0 where
  pub same_rows : new.rows ≡ Some s.rows
  pub given : (new.given ≡ old.given) ⊎ ((turn : Turn) × IsReadTurn e line turn ×
      (new.given ≡ risen old.given (reply_to e s turn).given))
  pub dice : DrawsAtMost e.config old.dice new.dice
