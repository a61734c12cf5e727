-- A run that has come some lines far.
use Rattle.std.proofs.Common.{◌≡◌, ℕ, ◌+◌, ◌≤◌, true, ◌⊎◌, List, []}
use Rattle.std.proofs.Common.{◌∷◌, ◌++◌, length, take, drop, Vec, Some, None, inl}
use Rattle.std.proofs.Common.{inr, refl, sym, ap, ◌∙◌, subst, arith, append_assoc, append-nil}
use Rattle.std.specs.declared.alloc.Global.{Global}
use Rattle.std.specs.declared.option.Option.{Option}
use Rattle.std.specs.Io.KnownBytes.{Appends, Consumes, IsAtEnd}
use Rattle.std.proofs.KnownBytes.{Appends-nil, Appends-trans, Consumes-nil, Consumes-kept, Consumes-trans}
use Rattle.std.proofs.lemmas.List.{take-append-drop}
use Rattle.dbe_io.specs.declared.lines.LineFault.TheVariants as f
use Rattle.dbe_io.specs.Lines.{lines_of}
use Rattle.dbe_io.specs.Reading.{LineReaderState, IsLineReaderState, Given, Stops}
use Rattle.dbe_table.specs.Rows.{risen}
use Rattle.dbe_session.specs.Reply.{Environment, State, Turn, Reply, IsTurn, AreTurns, reply_to, run, lines_in}
use Rattle.dbe_session.specs.Reply.{stored_draws}
use Rattle.dbe_session.specs.Steps.{SessionView, Told, IsState, DrawsAtMost, IsReadTurn}
use Rattle.dbe_session.proofs.Counts.{risen_none, risen_twice}
use Rattle.dbe_serve.specs.Worlds.{Progress}
use Rattle.dbe_serve.specs.Run.{Replied, AreTurnsOf}
use Rattle.dbe_serve.specs.Turns.{Turned, TurnedInPart, TurnedDown, TurnedFor, IsOfReply}
use Rattle.dbe_serve.specs.Stops.{IsGivenFor, IsDrawnFor, IsLeftOff, IsCutOff, StopsFor, NextFor, StoppedAt}
use Rattle.dbe_serve.specs.declared.status.Status.{Status}
use Rattle.dbe_serve.specs.declared.status.Status.TheVariants as s
use Rattle.dbe_serve.proofs.ReadSoFar.{ReadSoFar, ReadSoFar-more, ReadSoFar-none, nothing_to_come, pulled_from}
use Rattle.dbe_serve.proofs.Halted.{gave_up, halted, too_long}
use Rattle.dbe_serve.proofs.Halted.{too_much, ended_before_long, ended_before_much, read_stops}

-- The lines that were given got their replies.
pub record Served (session : SessionView) (e : Environment) (bytes : List ℕ) (start : State)
    (reader : LineReaderState) (left : Option (List ℕ)) (before now : Progress) : Type 0 where
  pub turns : List Turn
  pub so_far : ReadSoFar 1048576 1073741824 bytes reader left (lines_in turns)
  pub are_turns : AreTurns e start turns
  pub replied : Replied session e before now (run e start turns)

-- ---- one turn more

run-text : (e : Environment) (s : State) (turns : List Turn) (turn : Turn) →
    (run e s (turns ++ turn ∷ [])).text ≡ (run e s turns).text ++ (reply_to e (run e s turns).state turn).text
run-text e s [] turn = append-nil _
run-text e s (t ∷ ts) turn = ap (λ (text : List ℕ). (reply_to e s t).text ++ text) (run-text e (reply_to e s t).state
    ts turn) ∙ sym (append_assoc (reply_to e s t).text _ _)

run-state : (e : Environment) (s : State) (turns : List Turn) (turn : Turn) →
    (run e s (turns ++ turn ∷ [])).state ≡ (reply_to e (run e s turns).state turn).state
run-state e s [] turn = refl
run-state e s (t ∷ ts) turn = run-state e (reply_to e s t).state ts turn

run-given : (e : Environment) (s : State) (turns : List Turn) (turn : Turn) →
    (run e s (turns ++ turn ∷ [])).given ≡ (run e s turns).given + (reply_to e (run e s turns).state turn).given
run-given e s [] turn = omega arith
run-given e s (t ∷ ts) turn = omega (arith, run-given e (reply_to e s t).state ts turn)

run-drawn : (e : Environment) (s : State) (turns : List Turn) (turn : Turn) →
    (run e s (turns ++ turn ∷ [])).drawn ≡ (run e s turns).drawn ++ (reply_to e (run e s turns).state turn).drawn
run-drawn e s [] turn = append-nil _
run-drawn e s (t ∷ ts) turn = ap (λ (bytes : List ℕ). (reply_to e s t).drawn ++ bytes) (run-drawn e
    (reply_to e s t).state ts turn) ∙ sym (append_assoc (reply_to e s t).drawn _ _)

lines_in-more : (turns : List Turn) (turn : Turn) → lines_in (turns ++ turn ∷ []) ≡ lines_in turns ++ turn.line ∷ []
lines_in-more [] turn = refl
lines_in-more (t ∷ ts) turn = ap (λ (ls : List (List ℕ)). t.line ∷ ls) (lines_in-more ts turn)

AreTurns-more : (e : Environment) (s : State) (turns : List Turn) (turn : Turn) → AreTurns e s turns →
    IsTurn e (run e s turns).state turn → AreTurns e s (turns ++ turn ∷ [])
AreTurns-more e s [] turn are is = (is, tt)
AreTurns-more e s (t ∷ ts) turn are is = (are.0, AreTurns-more e (reply_to e s t).state ts turn are.1 is)

-- ---- what was replied

-- nothing was replied yet
Replied-none : (session : SessionView) (e : Environment) (before : Progress) (start : State) →
    IsState session before.told e start → Replied session e before before (run e start [])
Replied-none session e before start is = record {
  state = is;
  given = sym (risen_none before.told.given);
  written =
      Appends-nil before.written;
  dice = Consumes-nil before.told.dice;
}

-- the objects tell the same
Replied-same : (session : SessionView) (e : Environment) (before now after : Progress) (reply : Reply) →
    after.told ≡ now.told → after.written ≡ now.written → Replied session e before now reply →
    Replied session e before after reply
Replied-same session e before now after reply told written p =
    let P : Told → Type 0 = λ t. IsState session t e reply.state in
    let W : Option (List ℕ) → Type 0 = λ w. Appends before.written w reply.text in
    let D : Option (List ℕ) → Type 0 = λ d. Consumes before.told.dice d reply.drawn in
    record {
      state = subst P (sym told) p.state;
      given = ap (λ (t : Told). t.given) told ∙ p.given;
      written =
          subst W (sym written) p.written;
      dice = subst D (sym (ap (λ (t : Told). t.dice) told)) p.dice;
    }

-- so many rows more were returned, and these bytes more drawn
Replied-given : (session : SessionView) (e : Environment) (before now after : Progress) (done : Reply) (given : ℕ)
    (drawn : List ℕ) → Replied session e before now done → IsState session after.told e done.state →
    after.told.given ≡ risen now.told.given given → after.written ≡ now.written →
    Consumes now.told.dice after.told.dice drawn
    → Replied session e before after (record done { given = done.given + given; drawn = done.drawn ++ drawn })
Replied-given session e before now after done given drawn p state is written dice =
    let W : Option (List ℕ) → Type 0 = λ w. Appends before.written w done.text in
    record {
      state = state;
      given = is ∙ ap (λ (n : ℕ). risen n given) p.given ∙
          risen_twice before.told.given done.given given;
      written = subst W (sym written) p.written;
      dice = Consumes-trans before.told.dice now.told.dice after.told.dice done.drawn drawn p.dice dice;
    }

-- ---- lines

pub Served-start : (session : SessionView) (e : Environment) (bytes : List ℕ) (start : State)
    (reader : LineReaderState) (left : Option (List ℕ)) (before : Progress)
    → ReadSoFar 1048576 1073741824 bytes reader left [] → IsState session before.told e start →
    Served session e bytes start reader left before before
Served-start session e bytes start reader left before so_far is = record {
  turns = [];
  so_far = so_far;
  are_turns =
      tt;
  replied = Replied-none session e before start is;
}

-- one line more
pub Served-more : (session : SessionView) (e : Environment) (bytes : List ℕ) (start : State) (old_reader new_reader :
    LineReaderState) (left left' : Option (List ℕ)) (before now after : Progress) (v : Vec ℕ Global)
    → Served session e bytes start old_reader left before now → Given old_reader new_reader left left' (Some v) →
    (old_reader.ended ≡ true → IsAtEnd left)
    → ((state : State) → IsState session now.told e state → Turned e state v.items now.told after.told now.written
    after.written)
    → Served session e bytes start new_reader left' before after
Served-more session e bytes start old_reader new_reader left left' before now after v p read was turned =
    let next = ReadSoFar-more 1048576 1073741824 bytes old_reader new_reader left left' (lines_in p.turns) v p.so_far
    read was in
    let t = turned (run e start p.turns).state p.replied.state in
    let turn = t.answered.turn in
    let P : List (List ℕ) → Type 0 = λ ls. ReadSoFar 1048576 1073741824 bytes new_reader left' ls in
    let same : lines_in p.turns ++ v.items ∷ [] ≡ lines_in (p.turns ++ turn ∷ []) =
    ap (λ (l : List ℕ). lines_in p.turns ++ l ∷ []) (sym t.answered.is_line) ∙ sym (lines_in-more p.turns turn) in
    let whole : (run e start p.turns).text ++ t.text ≡ (run e start (p.turns ++ turn ∷ [])).text =
    ap (λ (text : List ℕ). (run e start p.turns).text ++ text) t.answered.is_text ∙
    sym (run-text e start p.turns turn) in
    let Q : State → Type 0 = λ state. IsState session after.told e state in
    record {
      turns = p.turns ++ turn ∷ [];
      so_far = subst P same next.so_far;
      are_turns = AreTurns-more e start p.turns turn p.are_turns t.answered.is_turn;
      replied = record {
        state = subst Q (sym (run-state e start p.turns turn)) (record {
          config = p.replied.state.config;
          rows =
              t.answered.are_rows;
        });
        given = t.answered.given ∙ ap (λ (n : ℕ). risen n (reply_to e (run e start p.turns).state turn).given)
            p.replied.given
            ∙ risen_twice before.told.given (run e start p.turns).given _ ∙
            ap (risen before.told.given) (sym (run-given e start p.turns turn));
        written = subst (Appends before.written after.written) whole (Appends-trans before.written now.written
            after.written _ _ p.replied.written t.appended);
        dice = subst (Consumes before.told.dice after.told.dice) (sym (run-drawn e start p.turns turn))
            (Consumes-trans before.told.dice now.told.dice after.told.dice _ _ p.replied.dice t.answered.dice);
      };
    }

-- where none is given, all lines are done
pub Served-done : (session : SessionView) (e : Environment) (bytes : List ℕ) (start : State) (old_reader new_reader :
    LineReaderState) (left left' : Option (List ℕ)) (before now after : Progress)
    → Served session e bytes start old_reader left before now → Given old_reader new_reader left left' None →
    (old_reader.ended ≡ true → IsAtEnd left) → after.told ≡ now.told → after.written ≡ now.written
    → (turns : List Turn) × AreTurnsOf e start turns (lines_of bytes) ×
    Replied session e before after (run e start turns)
Served-done session e bytes start old_reader new_reader left left' before now after p read was told written = (
  p.turns,
  record {
    lines = ReadSoFar-none 1048576 1073741824 bytes old_reader new_reader left left' (lines_in p.turns)
        p.so_far read was;
    are_turns = p.are_turns;
  },
  Replied-same session e before now after (run e start p.turns) told written p.replied,
)

-- ---- where the run stops

-- the next line got no rows
none_for : (e : Environment) (state : State) (lines : List (List ℕ)) → IsGivenFor e state lines 0
none_for e state [] = refl
none_for e state (line ∷ lines) = inl refl

-- nor were bytes drawn
none_drawn : (e : Environment) (lines : List (List ℕ)) → IsDrawnFor e lines []
none_drawn e [] = refl
none_drawn e (line ∷ lines) = inl refl

-- the next line was not begun
left_off : (session : SessionView) (e : Environment) (before after : Progress) (done : Reply) (lines : List (List ℕ))
    → Replied session e before after done → IsLeftOff session e before after done lines
left_off session e before after done lines p = record {
  given = 0;
  is_given = none_for e done.state lines;
  drawn = [];
  is_drawn = none_drawn e lines;
  replied = record {
    state = p.state;
    given = p.given ∙
        ap (risen before.told.given) (let same : done.given ≡ done.given + 0 = omega arith in same);
    written =
        p.written;
    dice = subst (Consumes before.told.dice after.told.dice) (sym (append-nil done.drawn)) p.dice;
  };
}

-- the bytes that were drawn for a line without a reply
taken_for : (e : Environment) (old new : Option (List ℕ)) → DrawsAtMost e.config old new → (drawn : List ℕ) ×
    ((drawn ≡ []) ⊎ (length drawn ≡ stored_draws e.config)) × Consumes old new drawn
taken_for e old new (inl kept) = ([], inl refl, Consumes-kept old old new [] (Consumes-nil old) kept)
taken_for e old new (inr p) = (p.0, inr p.1, p.2)

-- the rows that were returned for it
given_for : (e : Environment) (state : State) (line : List ℕ) (before after : ℕ) → (after ≡ before) ⊎ ((turn : Turn) ×
    IsReadTurn e line turn × (after ≡ risen before (reply_to e state turn).given)) → (given : ℕ) × ((given ≡ 0) ⊎
    ((turn : Turn) × IsReadTurn e line turn × (given ≡ (reply_to e state turn).given))) × (after ≡ risen before given)
given_for e state line before after (inl same) = (0, inl refl, same ∙ sym (risen_none before))
given_for e state line before after (inr p) = ((reply_to e state p.0).given, inr (p.0, p.1, refl), p.2)

-- the next line got no reply
unanswered : (session : SessionView) (e : Environment) (before now after : Progress) (done : Reply) (line : List ℕ)
    (lines : List (List ℕ)) → Replied session e before now done
    → TurnedDown e done.state line now.told after.told now.written after.written →
    IsLeftOff session e before after done (line ∷ lines)
unanswered session e before now after done line lines p t =
    let state : IsState session after.told e done.state = record {
      config = p.state.config;
      rows =
          t.unanswered.same_rows;
    } in
    let took = taken_for e now.told.dice after.told.dice t.unanswered.dice in
    let gave = given_for e done.state line now.told.given after.told.given t.unanswered.given in
    record {
      given = gave.0;
      is_given = gave.1;
      drawn = took.0;
      is_drawn = took.1;
      replied = Replied-given session e before now after done gave.0 took.0 p state gave.2 t.same took.2;
    }

-- the reply to the next line was cut off
cut_off : (session : SessionView) (e : Environment) (before now after : Progress) (done : Reply) (line : List ℕ) →
    Replied session e before now done
    → TurnedInPart e done.state line now.told after.told now.written after.written →
    IsCutOff session e before after done line
cut_off session e before now after done line p t =
    let turn = t.answered.turn in
    record {
      turn = turn;
      is_turn = record { is_line = t.answered.is_line; is_turn = t.answered.is_turn };
      prefix = take t.appended.count t.text;
      rest = drop t.appended.count t.text;
      whole = sym t.answered.is_text ∙ sym (take-append-drop t.appended.count t.text);
      replied = record {
        state = record { config = p.state.config; rows = t.answered.are_rows };
        given = t.answered.given ∙ ap (λ (n : ℕ). risen n (reply_to e done.state turn).given) p.given ∙
            risen_twice before.told.given done.given _;
        written = Appends-trans before.written now.written after.written _ _ p.written t.appended.front;
        dice = Consumes-trans before.told.dice now.told.dice after.told.dice _ _ p.dice t.answered.dice;
      };
    }

-- what became of the next line, by the status of its reply
next_for : (session : SessionView) (e : Environment) (before now after : Progress) (done : Reply) (line : List ℕ)
    (lines : List (List ℕ)) (status : Status) → Replied session e before now done
    → TurnedFor status e done.state line now.told after.told now.written after.written →
    NextFor status session e before after done (line ∷ lines)
next_for session e before now after done line lines s.Write p t = cut_off session e before now after done line p t
next_for session e before now after done line lines s.Table p t =
    unanswered session e before now after done line lines p t
next_for session e before now after done line lines s.Dice p t =
    unanswered session e before now after done line lines p t
next_for session e before now after done line lines s.Memory p t =
    unanswered session e before now after done line lines p t
next_for session e before now after done line lines s.Done p t = absurd t
next_for session e before now after done line lines s.Arguments p t = absurd t
next_for session e before now after done line lines (s.Config fault) p t = absurd t
next_for session e before now after done line lines s.Read p t = absurd t
next_for session e before now after done line lines s.LineTooLong p t = absurd t
next_for session e before now after done line lines s.ScriptTooLong p t = absurd t

-- the lines that are done have their replies
stopped_at : (session : SessionView) (e : Environment) (status : Status) (bytes : List ℕ) (start : State)
    (reader : LineReaderState) (left0 : Option (List ℕ)) (before now after : Progress) (ahead left : List ℕ)
    → (p : Served session e bytes start reader left0 before now) → after.script ≡ Some left →
    reader.held ++ p.so_far.to_come ≡ ahead ++ left → length ahead ≤ 1048577
    → StopsFor status (lines_in p.turns) p.so_far.prefix (reader.held ++ p.so_far.to_come) left →
    NextFor status session e before after (run e start p.turns) (lines_of (reader.held ++ p.so_far.to_come))
    → StoppedAt session e status before after start bytes p.turns
stopped_at session e status bytes start reader left0 before now after ahead left p told taken few stops next = record {
  prefix = p.so_far.prefix;
  rest = reader.held ++ p.so_far.to_come;
  ahead = ahead;
  left = left;
  whole = p.so_far.whole;
  taken = taken;
  few_ahead = few;
  is_left = told;
  lines = p.so_far.lines_are;
  are_turns = p.are_turns;
  stops = stops;
  next = next;
}

-- a reader that gave up holds few bytes
few_held : (new : LineReaderState) (limit : ℕ) → new.limit ≡ limit → limit ≡ 1048576 →
    length new.held ≤ new.limit + 1 → length new.held ≤ 1048577
few_held new limit same is held = omega (arith, same, is, held)

-- of a line that was given, and what the reader holds after it, there are few bytes
few_given : (bytes : List ℕ) (limit : ℕ) → limit ≡ 1048576 → length bytes ≤ limit + 1 → length bytes ≤ 1048577
few_given bytes limit is few = omega (arith, is, few)

-- nothing is few bytes
few_none : (bytes : List ℕ) → bytes ≡ [] → length bytes ≤ 1048577
few_none bytes none = let size : length bytes ≡ 0 = ap length none in omega (arith, size)

-- a status of a reply asks nothing of where the script stopped
free_of : (status : Status) → IsOfReply status → (lines : List (List ℕ)) (prefix rest left : List ℕ) →
    StopsFor status lines prefix rest left
free_of s.Table is lines prefix rest left = tt
free_of s.Write is lines prefix rest left = tt
free_of s.Dice is lines prefix rest left = tt
free_of s.Memory is lines prefix rest left = tt
free_of s.Done is lines prefix rest left = absurd is
free_of s.Arguments is lines prefix rest left = absurd is
free_of (s.Config fault) is lines prefix rest left = absurd is
free_of s.Read is lines prefix rest left = absurd is
free_of s.LineTooLong is lines prefix rest left = absurd is
free_of s.ScriptTooLong is lines prefix rest left = absurd is

-- where the run stops within a line, that line is the next one
pub stopped_in_reply : (session : SessionView) (e : Environment) (status : Status) (bytes : List ℕ) (start : State)
    (old_reader new_reader : LineReaderState) (left left' : Option (List ℕ)) (before now after : Progress)
    (v : Vec ℕ Global)
    → IsOfReply status → Served session e bytes start old_reader left before now →
    Given old_reader new_reader left left' (Some v) → (old_reader.ended ≡ true → IsAtEnd left) →
    after.script ≡ left'
    → ((state : State) → IsState session now.told e state → TurnedFor status e state v.items now.told after.told
    now.written after.written)
    → (turns : List Turn) × StoppedAt session e status before after start bytes turns
stopped_in_reply session e status bytes start old_reader new_reader left left' before now after v of p read was
    is_script turned =
    let pull = pulled_from left left' p.so_far.to_come read.moved p.so_far.is_left read.moves.gone in
    let next = ReadSoFar-more 1048576 1073741824 bytes old_reader new_reader left left' (lines_in p.turns) v p.so_far
    read was in
    let done = run e start p.turns in
    let P : List (List ℕ) → Type 0 = λ ls. NextFor status session e before after done ls in (
      p.turns,
      stopped_at session e status bytes start old_reader left before now after (old_reader.held ++ read.moved)
          pull.rest p (is_script ∙ pull.is_left)
          (ap (λ l. old_reader.held ++ l) pull.whole ∙ sym (append_assoc old_reader.held read.moved pull.rest))
          (few_given (old_reader.held ++ read.moved) old_reader.limit p.so_far.is_limit read.few)
          (free_of status of (lines_in p.turns) _ _ _)
          (subst P (sym next.first) (next_for session e before now after done v.items _ status p.replied
          (turned done.state p.replied.state))),
    )

-- where the reader gave up
module _ (session : SessionView) (e : Environment) (bytes : List ℕ) (start : State) (old_reader new_reader :
    LineReaderState) (left left' : Option (List ℕ)) (before now after : Progress) (p : Served session e bytes start
    old_reader left before now) (none : old_reader.fault ≡ None) (within : IsLineReaderState new_reader)
    (told : after.told ≡ now.told) (written : after.written ≡ now.written) (is_script : after.script ≡ left') where
  same : Replied session e before after (run e start p.turns)
  same = Replied-same session e before now after (run e start p.turns) told written p.replied

  pub stopped_read : Stops old_reader new_reader left left' f.Read → (turns : List Turn) ×
      StoppedAt session e s.Read before after start bytes turns
  stopped_read stops =
      let g = gave_up old_reader new_reader left left' f.Read none stops in
      let h = halted 1048576 1073741824 bytes old_reader new_reader left left' (lines_in p.turns) f.Read p.so_far g in (
        p.turns,
        stopped_at session e s.Read bytes start old_reader left before now after new_reader.held h.left p
            (is_script ∙ h.is_left) h.rest_is (few_held new_reader _ g.moves.limit p.so_far.is_limit within.held)
            (read_stops 1048576 1073741824 bytes old_reader new_reader left left' (lines_in p.turns) p.so_far g) same,
      )

  pub stopped_memory : Stops old_reader new_reader left left' f.Memory → (turns : List Turn) ×
      StoppedAt session e s.Memory before after start bytes turns
  stopped_memory stops =
      let g = gave_up old_reader new_reader left left' f.Memory none stops in
      let h = halted 1048576 1073741824 bytes old_reader new_reader left left' (lines_in p.turns) f.Memory p.so_far
      g in (
        p.turns,
        stopped_at session e s.Memory bytes start old_reader left before now after new_reader.held h.left p
            (is_script ∙ h.is_left) h.rest_is (few_held new_reader _ g.moves.limit p.so_far.is_limit within.held) tt
            (left_off session e before after (run e start p.turns) _ same),
      )

  pub stopped_long : Stops old_reader new_reader left left' f.LineTooLong → (turns : List Turn) ×
      StoppedAt session e s.LineTooLong before after start bytes turns
  stopped_long stops =
      let g = gave_up old_reader new_reader left left' f.LineTooLong none stops in
      let h = halted 1048576 1073741824 bytes old_reader new_reader left left' (lines_in p.turns) f.LineTooLong
      p.so_far g in (
        p.turns,
        stopped_at session e s.LineTooLong bytes start old_reader left before now after new_reader.held h.left p
            (is_script ∙ h.is_left) h.rest_is (few_held new_reader _ g.moves.limit p.so_far.is_limit within.held) (
              ended_before_long 1048576 1073741824 bytes old_reader new_reader left left' (lines_in p.turns) p.so_far
                  g,
              p.so_far.short,
              p.so_far.within,
              too_long 1048576 1073741824 bytes old_reader new_reader left left'
                  (lines_in p.turns) p.so_far g,
            ) same,
      )

  pub stopped_much : Stops old_reader new_reader left left' f.TooMuch → (turns : List Turn) ×
      StoppedAt session e s.ScriptTooLong before after start bytes turns
  stopped_much stops =
      let g = gave_up old_reader new_reader left left' f.TooMuch none stops in
      let h = halted 1048576 1073741824 bytes old_reader new_reader left left' (lines_in p.turns) f.TooMuch p.so_far g
      in (
        p.turns,
        stopped_at session e s.ScriptTooLong bytes start old_reader left before now after new_reader.held h.left p
            (is_script ∙ h.is_left) h.rest_is (few_held new_reader _ g.moves.limit p.so_far.is_limit within.held) (
              ended_before_much 1048576 1073741824 bytes old_reader new_reader left left' (lines_in p.turns) p.so_far
                  g,
              p.so_far.short,
              p.so_far.within,
              too_much 1048576 1073741824 bytes old_reader new_reader left left'
                  (lines_in p.turns) p.so_far g,
            ) same,
      )

  -- where the sink did not finish
  pub stopped_write : (status : Status) → status ≡ s.Write → Given old_reader new_reader left left' None →
      (old_reader.ended ≡ true → IsAtEnd left) → (turns : List Turn) ×
      StoppedAt session e status before after start bytes turns
  stopped_write status is read was =
      let pull = pulled_from left left' p.so_far.to_come read.moved p.so_far.is_left read.moves.gone in
      let shape : old_reader.held ++ p.so_far.to_come ≡ (old_reader.held ++ read.moved) ++ pull.rest =
      ap (λ l. old_reader.held ++ l) pull.whole ∙ sym (append_assoc old_reader.held read.moved pull.rest) in
      let P : Status → Type 0 = λ st. StoppedAt session e st before after start bytes p.turns in
      let Q : List (List ℕ) → Type 0 = λ ls. NextFor s.Write session e before after (run e start p.turns) ls in (
        p.turns,
        subst P (sym is) (stopped_at session e s.Write bytes start old_reader left before now after
            (old_reader.held ++ read.moved) pull.rest p (is_script ∙
            pull.is_left) shape (few_none (old_reader.held ++ read.moved) read.given.0) tt
            (subst Q (sym (ap lines_of (nothing_to_come 1048576 1073741824 bytes old_reader new_reader left left'
            (lines_in p.turns) p.so_far read was))) same)),
      )

-- where not even the reader was made
pub stopped_first : (session : SessionView) (e : Environment) (bytes : List ℕ) (start : State)
    (before after : Progress) → after.script ≡ Some bytes → after.told ≡ before.told →
    after.written ≡ before.written → IsState session before.told e start
    → (turns : List Turn) × StoppedAt session e s.Memory before after start bytes turns
stopped_first session e bytes start before after script told written is = (
  [],
  record {
    prefix = [];
    rest = bytes;
    ahead = [];
    left = bytes;
    whole = refl;
    taken = refl;
    few_ahead = few_none [] refl;
    is_left = script;
    lines = refl;
    are_turns = tt;
    stops = tt;
    next = left_off session e before after (run e start []) (lines_of bytes) (Replied-same session e before before
        after (run e start []) told written (Replied-none session e before start is));
  },
)
