-- What one line does to the objects of a step and to what is written (this project's own).
use Rattle.std.specs.Prelude.{◌≡◌, ℕ, List, Option}
use Rattle.std.specs.Io.KnownBytes.{Appends}
use Rattle.dbe_io.specs.Prefix.{AppendsPrefix}
use Rattle.dbe_session.specs.Reply.{Environment, State}
use Rattle.dbe_session.specs.Steps.{Told, Answered, Unanswered}
use Rattle.dbe_serve.specs.declared.status.Status.{Status}
use Rattle.dbe_serve.specs.declared.status.Status.TheVariants as s

-- a line got its reply, and it was written
pub record Turned (e : Environment) (state : State) (line : List ℕ) (old new : Told) (written written' : Option
    (List ℕ)) : Type 0 where
  pub text : List ℕ
  pub answered : Answered e state line text old new
  pub appended : Appends written written' text

-- a line got its reply, and a prefix of it was written
pub record TurnedInPart (e : Environment) (state : State) (line : List ℕ) (old new : Told) (written written' : Option
    (List ℕ)) : Type 0 where
  pub text : List ℕ
  pub answered : Answered e state line text old new
  pub appended : AppendsPrefix written written' text

-- a line got no reply, and nothing was written
pub record TurnedDown (e : Environment) (state : State) (line : List ℕ) (old new : Told) (written written' : Option
    (List ℕ)) : Type 0 where
  pub unanswered : Unanswered e state line old new
  pub same : written' ≡ written

-- why a line's reply was not written, or not whole
abbrev pub TurnedFor : Status → Environment → State → List ℕ → Told → Told → Option (List ℕ) → Option (List ℕ) → Type 0
TurnedFor s.Write e state line old new written written' = TurnedInPart e state line old new written written'
TurnedFor s.Table e state line old new written written' = TurnedDown e state line old new written written'
TurnedFor s.Dice e state line old new written written' = TurnedDown e state line old new written written'
TurnedFor s.Memory e state line old new written written' = TurnedDown e state line old new written written'
TurnedFor _ e state line old new written written' = ⊥

-- the statuses that come where a line gets no whole reply
abbrev pub IsOfReply : Status → Type 0
IsOfReply s.Table = Unit {0}
IsOfReply s.Write = Unit {0}
IsOfReply s.Dice = Unit {0}
IsOfReply s.Memory = Unit {0}
IsOfReply _ = ⊥
