-- Queries are answered from the map that the rows stand for.
use Rattle.std.proofs.Common.{◌≡◌, ℕ, List, [], ◌∷◌, ◌++◌, refl, sym, ap, ◌∙◌, subst}
use Rattle.std.specs.Io.KnownBytes.{Appends}
use Rattle.std.specs.List.{flat_map}
use Rattle.std.proofs.lemmas.List.Concat.{flat_map-cons}
use Rattle.dbe_io.specs.Lines.{lines_of}
use Rattle.dbe_item.specs.Ruled.{IsSealing}
use Rattle.dbe_session.specs.Reply.{Environment, State, Turn, IsTurn, AreTurns, reply_to, run, lines_in, replies_in}
use Rattle.dbe_session.specs.Steps.{SessionView}
use Rattle.dbe_session.specs.Maps.{Items, After, Stands, after_line}
use Rattle.dbe_session.proofs.Maps.{stands_after_line, answer_of}
use Rattle.dbe_serve.specs.declared.status.Status.{Status}
use Rattle.dbe_serve.specs.Worlds.{Progress, World}
use Rattle.dbe_serve.specs.Run.{Ran, RanOver, Headline, HeadlineOver, AreAnswers}
use Rattle.dbe_serve.specs.Stops.{Stopped, StoppedOver, Kept, KeptOver, StandsAfterNext}

-- ---- turns

stands_after : (e : Environment) (s : State) (m : Items) (turns : List Turn) → IsSealing e.config → AreTurns e s turns →
    Stands e s m → Stands e (run e s turns).state (After e m (lines_in turns) (replies_in e s turns))
stands_after e s m [] sealing are st = st
stands_after e s m (turn ∷ turns) sealing are st = stands_after e (reply_to e s turn).state _ turns sealing are.1
    (stands_after_line e s m turn.facts sealing st turn.line are.0)

text_joined : (e : Environment) (s : State) (turns : List Turn) →
    (run e s turns).text ≡ flat_map (λ reply. reply) (replies_in e s turns)
text_joined e s [] = refl
text_joined e s (turn ∷ turns) = ap (λ (text : List ℕ). (reply_to e s turn).text ++ text)
    (text_joined e (reply_to e s turn).state turns) ∙
    sym (flat_map-cons (λ reply. reply) (reply_to e s turn).text (replies_in e (reply_to e s turn).state turns))

-- the turn after some others
turn_at : (e : Environment) (s : State) (first : List Turn) (turn : Turn) (others : List Turn) →
    AreTurns e s (first ++ turn ∷ others) → IsTurn e (run e s first).state turn
turn_at e s [] turn others are = are.0
turn_at e s (t ∷ first) turn others are = turn_at e (reply_to e s t).state first turn others are.1

-- the turns before some others
turns_before : (e : Environment) (s : State) (first others : List Turn) → AreTurns e s (first ++ others) →
    AreTurns e s first
turns_before e s [] others are = tt
turns_before e s (t ∷ first) others are = (are.0, turns_before e (reply_to e s t).state first others are.1)

answers : (e : Environment) (s : State) (m : Items) (turns : List Turn) → IsSealing e.config → AreTurns e s turns →
    Stands e s m → AreAnswers e s m turns
answers e s m turns sealing are st first turn others is =
    let P : List Turn → Type 0 = λ ts. AreTurns e s ts in
    answer_of e (run e s first).state _ turn.line turn.facts (turn_at e s first turn others
    (subst P is are)).reading (stands_after e s m first sealing (turns_before e s first (turn ∷ others)
    (subst P is are)) st)

-- the next line
stands_next : (e : Environment) (s : State) (m : Items) (lines : List (List ℕ)) → IsSealing e.config → Stands e s m →
    StandsAfterNext e s m lines
stands_next e s m [] sealing st = tt
stands_next e s m (line ∷ lines) sealing st = λ turn is.
    let P : List ℕ → Type 0 = λ l. Stands e (reply_to e s turn).state (after_line e m l (reply_to e s turn).text) in
    subst P is.is_line (stands_after_line e s m turn.facts sealing st turn.line is.is_turn)

-- ---- whole runs

headline_over : (session : SessionView) (before after : Progress) → IsSealing session.config →
    RanOver session before after → HeadlineOver session before after
headline_over session before after keeps ran = λ bytes e start m script is st.
    let r = ran bytes e start script is in
    let sealing : IsSealing e.config = subst IsSealing is.config keeps in (
      r.0,
      r.1,
      record {
        replied = r.2;
        written = subst (Appends before.written after.written) (text_joined e start r.0) r.2.written;
        answers = answers e start m r.0 sealing r.1.are_turns st;
        stands = stands_after e start m r.0 sealing r.1.are_turns st;
      },
    )

-- what was written for a script answers each query from the map
pub headline : (before after : World) → Ran before after → Headline before after
headline before after (session, uses, ran) = (session, uses, headline_over session _ _ uses.sealing ran)

kept_over : (session : SessionView) (status : Status) (before after : Progress) → IsSealing session.config →
    StoppedOver session status before after → KeptOver session status before after
kept_over session status before after keeps stopped = λ bytes e start m script is st.
    let r = stopped bytes e start script is in
    let sealing : IsSealing e.config = subst IsSealing is.config keeps in
    let stands = stands_after e start m r.0 sealing r.1.are_turns st in (
      r.0,
      record {
        stopped = r.1;
        written = text_joined e start r.0;
        answers = answers e start m r.0 sealing r.1.are_turns st;
        stands = stands;
        next = stands_next e (run e start r.0).state _ (lines_of r.1.rest) sealing stands;
      },
    )

-- where the run stopped, the map is kept
pub kept : (status : Status) (before after : World) → Stopped status before after → Kept status before after
kept status before after (session, uses, stopped) =
    (session, uses, kept_over session status _ _ uses.sealing stopped)
