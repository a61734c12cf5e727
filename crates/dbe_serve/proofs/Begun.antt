-- A table that has begun tells the rows that it was to begin with.
use Rattle.std.proofs.Common.{◌≡◌, ◌∙◌, ℕ, List, Some, IfSome, sym, subst}
use Rattle.std.specs.declared.option.Option.{Option}
use Rattle.dbe_table.specs.Rows.{Row}
use Rattle.dbe_session.specs.Reply.{Environment, State}
use Rattle.dbe_session.specs.Steps.{SessionView, IsState, told}
use Rattle.dbe_serve.specs.Worlds.{Progress}
use Rattle.dbe_serve.specs.Run.{RanOver}
use Rattle.dbe_serve.specs.Stops.{StoppedOver}
use Rattle.dbe_serve.specs.declared.status.Status.{Status}

-- what a script, a table of these rows and an output tell
abbrev at : Option (List ℕ) → Option (List ℕ) → Option (List ℕ) → Option (List Row) → ℕ → Progress
at script written dice rows given = record { script = script; told = told rows given dice; written = written }

module _ (session : SessionView) (script written dice : Option (List ℕ)) (rows coming : Option (List Row))
    (given given' : ℕ) (after : Progress) (begins : IfSome coming (λ found. rows ≡ Some found))
    (same_given : given ≡ given') where
  -- where the rows that were to come are told, they are the rows
  same_rows : (e : Environment) (start : State) → IsState session (told coming given' dice) e start → rows ≡ coming
  same_rows e start is =
      let P : Option (List Row) → Type 0 = λ told. IfSome told (λ found. rows ≡ Some found) in
      subst P is.rows begins ∙ sym is.rows

  pub RanOver-begun : RanOver session (at script written dice rows given) after →
      RanOver session (at script written dice coming given') after
  RanOver-begun ran = λ bytes e start told is.
      let P : Option (List Row) → Type 0 = λ r. RanOver session (at script written dice r given') after in
      let Q : ℕ → Type 0 = λ n. RanOver session (at script written dice rows n) after in
      subst P (same_rows e start is) (subst Q same_given ran) bytes e start told is

  pub StoppedOver-begun : (status : Status) → StoppedOver session status (at script written dice rows given) after →
      StoppedOver session status (at script written dice coming given') after
  StoppedOver-begun status stopped = λ bytes e start told is.
      let P : Option (List Row) → Type 0 = λ r. StoppedOver session status (at script written dice r given') after in
      let Q : ℕ → Type 0 = λ n. StoppedOver session status (at script written dice rows n) after in
      subst P (same_rows e start is) (subst Q same_given stopped) bytes e start told is
