-- What stands where a run stops before the end of its script (this project's own).
use Rattle.std.specs.Prelude.{◌≡◌, ◌⊎◌, ◌<◌, ◌≤◌, ◌+◌, ◌-◌, ℕ, List, [], ◌∷◌, ◌++◌, Some, length}
use Rattle.std.specs.List.{All, flat_map}
use Rattle.dbe_io.specs.Lines.{lines_of, ended_lines, IsTooLong, IsTooMuch}
use Rattle.dbe_session.specs.Reply.{Environment, State, Turn, Reply, IsTurn, AreTurns, reply_to, run, lines_in}
use Rattle.dbe_session.specs.Reply.{replies_in, stored_draws}
use Rattle.dbe_session.specs.Steps.{SessionView, IsState, IsReadTurn}
use Rattle.dbe_session.specs.Maps.{Items, After, Stands, after_line}
use Rattle.dbe_serve.specs.Worlds.{Progress, World, begun_with}
use Rattle.dbe_serve.specs.Run.{IsSessionOf, Replied, AreAnswers}
use Rattle.dbe_serve.specs.declared.status.Status.{Status}
use Rattle.dbe_serve.specs.declared.status.Status.TheVariants as s

-- a line of the bytes has more than 1,048,576 bytes
pub record HasLongLine (bytes : List ℕ) : Type 0 where
  pub before : List (List ℕ)
  pub line : List ℕ
  pub after : List (List ℕ)
  pub lines : lines_of bytes ≡ before ++ line ∷ after
  pub long : 1048576 < length line

-- where a run stops for this status: what was taken of the script, and what is left of it
abbrev pub StopsFor : Status → List (List ℕ) → List ℕ → List ℕ → List ℕ → Type 0
StopsFor s.LineTooLong lines prefix rest left = (lines ≡ ended_lines prefix) ×
    All (λ line. length line ≤ 1048576) lines × (length prefix ≤ 1073741824) ×
    IsTooLong 1048576 (1073741824 - length prefix) rest
StopsFor s.ScriptTooLong lines prefix rest left = (lines ≡ ended_lines prefix) ×
    All (λ line. length line ≤ 1048576) lines × (length prefix ≤ 1073741824) ×
    IsTooMuch 1048576 (1073741824 - length prefix) rest
StopsFor s.Done lines prefix rest left = ⊥
StopsFor s.Arguments lines prefix rest left = ⊥
StopsFor (s.Config f) lines prefix rest left = ⊥
StopsFor s.Read lines prefix rest left = (taken : List ℕ) × (prefix ++ rest ≡ taken ++ left) ×
    (lines ≡ ended_lines taken)
StopsFor s.Write lines prefix rest left = Unit {0}
StopsFor s.Table lines prefix rest left = Unit {0}
StopsFor s.Dice lines prefix rest left = Unit {0}
StopsFor s.Memory lines prefix rest left = Unit {0}

-- a turn of a line
pub record IsTurnOf (e : Environment) (state : State) (line : List ℕ) (turn : Turn) : Type 0 where
  pub is_line : turn.line ≡ line
  pub is_turn : IsTurn e state turn

-- no rows, or as many as the reply to the first of the lines to come returns
abbrev pub IsGivenFor : Environment → State → List (List ℕ) → ℕ → Type 0
IsGivenFor e state [] given = given ≡ 0
IsGivenFor e state (line ∷ lines) given = (given ≡ 0) ⊎ ((turn : Turn) × IsReadTurn e line turn ×
    (given ≡ (reply_to e state turn).given))

-- no bytes, or as many as sealing an item takes
abbrev pub IsDrawnFor : Environment → List (List ℕ) → List ℕ → Type 0
IsDrawnFor e [] drawn = drawn ≡ []
IsDrawnFor e (line ∷ lines) drawn = (drawn ≡ []) ⊎ (length drawn ≡ stored_draws e.config)

-- The next line got nothing of its reply: the state and what was written are those of the replies before it. Its rows
-- may have been returned, and its bytes drawn.
pub record IsLeftOff (session : SessionView) (e : Environment) (before after : Progress) (done : Reply)
    (lines : List (List ℕ)) : Type 0 where
  pub given : ℕ
  pub is_given : IsGivenFor e done.state lines given
  pub drawn : List ℕ
  pub is_drawn : IsDrawnFor e lines drawn
  pub replied : Replied session e before after (record done { given = done.given + given; drawn = done.drawn ++ drawn })

-- The reply to the next line was cut off: a prefix of it was written, and the state is that after the line.
pub record IsCutOff (session : SessionView) (e : Environment) (before after : Progress) (done : Reply) (line : List ℕ)
    : Type 0 where
  pub turn : Turn
  pub is_turn : IsTurnOf e done.state line turn
  pub prefix : List ℕ
  pub rest : List ℕ
  pub whole : (reply_to e done.state turn).text ≡ prefix ++ rest
  pub replied : Replied session e before after (record (reply_to e done.state turn) {
    text = done.text ++ prefix;
    given = done.given + (reply_to e done.state turn).given;
    drawn = done.drawn ++ (reply_to e done.state turn).drawn;
  })

-- Where writing failed the next line was cut off; after the last line it was the end that could not be handed on.
abbrev pub IsUnwritten : SessionView → Environment → Progress → Progress → Reply → List (List ℕ) → Type 0
IsUnwritten session e before after done [] = Replied session e before after done
IsUnwritten session e before after done (line ∷ lines) = IsCutOff session e before after done line

-- what became of the first of the lines to come, after the replies before it
abbrev pub NextFor : Status → SessionView → Environment → Progress → Progress → Reply → List (List ℕ) → Type 0
NextFor s.Write session e before after done lines = IsUnwritten session e before after done lines
NextFor s.Table session e before after done lines = IsLeftOff session e before after done lines
NextFor s.Dice session e before after done lines = IsLeftOff session e before after done lines
NextFor s.Memory session e before after done lines = IsLeftOff session e before after done lines
NextFor s.Read session e before after done lines = Replied session e before after done
NextFor s.LineTooLong session e before after done lines = Replied session e before after done
NextFor s.ScriptTooLong session e before after done lines = Replied session e before after done
NextFor s.Done session e before after done lines = ⊥
NextFor s.Arguments session e before after done lines = ⊥
NextFor (s.Config f) session e before after done lines = ⊥

-- The lines up to some line got their replies. Of the lines to come at most 1,048,577 bytes were taken: a line of
-- 1,048,576 with its newline, or one byte more than a line may have.
pub record StoppedAt (session : SessionView) (e : Environment) (status : Status) (before after : Progress)
    (start : State) (bytes : List ℕ) (turns : List Turn) : Type 0 where
  pub prefix : List ℕ  -- the script up to the lines to come
  pub rest : List ℕ  -- the script from there on
  pub ahead : List ℕ  -- what was taken of the lines to come
  pub left : List ℕ  -- what the script still tells
  pub whole : bytes ≡ prefix ++ rest
  pub taken : rest ≡ ahead ++ left
  pub few_ahead : length ahead ≤ 1048577
  pub is_left : after.script ≡ Some left
  pub lines : lines_of bytes ≡ lines_in turns ++ lines_of rest
  pub are_turns : AreTurns e start turns
  pub stops : StopsFor status (lines_in turns) prefix rest left
  pub next : NextFor status session e before after (run e start turns) (lines_of rest)

-- where script and state are told, some lines got their replies
abbrev pub StoppedOver : SessionView → Status → Progress → Progress → Type 0
StoppedOver session status before after = (bytes : List ℕ) (e : Environment) (start : State) →
    before.script ≡ Some bytes → IsState session before.told e start →
    (turns : List Turn) × StoppedAt session e status before after start bytes turns

-- where the table has begun, some lines got their replies
abbrev pub Stopped : Status → World → World → Type 0
Stopped status before after = (session : SessionView) × IsSessionOf before after session ×
    StoppedOver session status (begun_with before.progress (before.coming session.config.schema)) after.progress

-- the state after a turn of the first of the lines to come stands for the map after it
abbrev pub StandsAfterNext : Environment → State → Items → List (List ℕ) → Type 0
StandsAfterNext e state m [] = Unit {0}
StandsAfterNext e state m (line ∷ lines) = (turn : Turn) → IsTurnOf e state line turn →
    Stands e (reply_to e state turn).state (after_line e m line (reply_to e state turn).text)

-- Some lines got their replies, each query from the map as the puts before it left it. The state that they left
-- stands for the map that they left, and the state after a line that was cut off for the map after that line.
pub record KeptBy (session : SessionView) (e : Environment) (status : Status) (before after : Progress)
    (start : State) (m : Items) (bytes : List ℕ) (turns : List Turn) : Type 0 where
  pub stopped : StoppedAt session e status before after start bytes turns
  pub written : (run e start turns).text ≡ flat_map (λ reply. reply) (replies_in e start turns)
  pub answers : AreAnswers e start m turns
  pub stands : Stands e (run e start turns).state (After e m (lines_in turns) (replies_in e start turns))
  pub next : StandsAfterNext e (run e start turns).state (After e m (lines_in turns) (replies_in e start turns))
      (lines_of stopped.rest)

-- where script and state are told, and the state stands for a map, the map is kept
abbrev pub KeptOver : SessionView → Status → Progress → Progress → Type 0
KeptOver session status before after = (bytes : List ℕ) (e : Environment) (start : State) (m : Items) →
    before.script ≡ Some bytes → IsState session before.told e start → Stands e start m →
    (turns : List Turn) × KeptBy session e status before after start m bytes turns

-- where the table has begun, the map is kept
abbrev pub Kept : Status → World → World → Type 0
Kept status before after = (session : SessionView) × IsSessionOf before after session ×
    KeptOver session status (begun_with before.progress (before.coming session.config.schema)) after.progress
