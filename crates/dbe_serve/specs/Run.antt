-- What the program writes for a script: the reply to each line, over the rows that the lines before it left (this
-- project's own).
use Rattle.std.specs.Prelude.{◌≡◌, ℕ, List, ◌∷◌, ◌++◌, Some, Ok}
use Rattle.std.specs.List.{flat_map}
use Rattle.std.specs.Io.KnownBytes.{Appends, Consumes}
use Rattle.dbe_io.specs.Lines.{lines_of}
use Rattle.dbe_table.specs.Rows.{risen}
use Rattle.dbe_config.specs.Configured.{configured}
use Rattle.dbe_item.specs.Ruled.{IsSealing}
use Rattle.dbe_session.specs.Reply.{Environment, State, Turn, Reply, AreTurns, reply_to, run, replies_in, lines_in}
use Rattle.dbe_session.specs.Steps.{SessionView, IsState}
use Rattle.dbe_session.specs.Maps.{Items, After, IsAnswer, Stands}
use Rattle.dbe_serve.specs.Worlds.{Progress, World, begun_with}

-- The session is by the configuration that the bytes spell, where they are told, and keeps what sealing needs; and
-- the table began with its keys.
pub record IsSessionOf (before after : World) (session : SessionView) : Type 0 where
  pub spelled : (bytes : List ℕ) → before.config ≡ Some bytes → configured bytes ≡ Ok session.config
  pub sealing : IsSealing session.config
  pub begun : after.begun ≡ Some session.config.schema

-- the turns are those of the lines, each with the reading of its own query
pub record AreTurnsOf (e : Environment) (start : State) (turns : List Turn) (script : List (List ℕ)) : Type 0 where
  pub lines : lines_in turns ≡ script
  pub are_turns : AreTurns e start turns

-- The objects came to the state of a reply, its text was written, so many rows as it has were returned, and its drawn
-- bytes were the next of the dice.
pub record Replied (session : SessionView) (e : Environment) (before after : Progress) (reply : Reply) : Type 0 where
  pub state : IsState session after.told e reply.state
  pub given : after.told.given ≡ risen before.told.given reply.given
  pub written : Appends before.written after.written reply.text
  pub dice : Consumes before.told.dice after.told.dice reply.drawn

-- where script and state are told, all lines of the script got their replies
abbrev pub RanOver : SessionView → Progress → Progress → Type 0
RanOver session before after = (bytes : List ℕ) (e : Environment) (start : State) → before.script ≡ Some bytes →
    IsState session before.told e start →
    (turns : List Turn) × AreTurnsOf e start turns (lines_of bytes) × Replied session e before after (run e start turns)

-- the script of a configuration got its replies
abbrev pub Ran : World → World → Type 0
Ran before after = (session : SessionView) × IsSessionOf before after session ×
    RanOver session (begun_with before.progress (before.coming session.config.schema)) after.progress

-- each query's reply is from the state and the map as the lines before it left them
abbrev pub AreAnswers : Environment → State → Items → List Turn → Type 0
AreAnswers e start m turns = (first : List Turn) (turn : Turn) (others : List Turn) → turns ≡ first ++ turn ∷ others →
    IsAnswer e (run e start first).state (After e m (lines_in first) (replies_in e start first)) turn.line
    (reply_to e (run e start first).state turn).text

-- The lines got their replies, each query from the map as the puts before it left it, and the state at exit stands
-- for the map that all of them left.
pub record AnsweredBy (session : SessionView) (e : Environment) (before after : Progress) (start : State) (m : Items)
    (turns : List Turn) : Type 0 where
  pub replied : Replied session e before after (run e start turns)
  pub written : Appends before.written after.written (flat_map (λ reply. reply) (replies_in e start turns))
  pub answers : AreAnswers e start m turns
  pub stands : Stands e (run e start turns).state (After e m (lines_in turns) (replies_in e start turns))

-- where script and state are told, and the state stands for a map
abbrev pub HeadlineOver : SessionView → Progress → Progress → Type 0
HeadlineOver session before after = (bytes : List ℕ) (e : Environment) (start : State) (m : Items) →
    before.script ≡ Some bytes → IsState session before.told e start → Stands e start m →
    (turns : List Turn) × AreTurnsOf e start turns (lines_of bytes) × AnsweredBy session e before after start m turns

-- the queries of a script, over the table of a configuration, are answered from its map
abbrev pub Headline : World → World → Type 0
Headline before after = (session : SessionView) × IsSessionOf before after session ×
    HeadlineOver session (begun_with before.progress (before.coming session.config.schema)) after.progress
