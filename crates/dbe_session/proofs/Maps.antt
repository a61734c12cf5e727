-- Rows that stand for a map of items, from line to line.
use Rattle.std.proofs.Common.{◌≡◌, ◌⊎◌, ℕ, Bool, true, false, if◌then◌else◌, List, [], ◌∷◌, inl, inr, refl, sym, ap}
use Rattle.std.proofs.Common.{◌∙◌, subst, length, Some, None, Result, Ok, Err, IfOk, OnErr, bytes_eq, Global}
use Rattle.std.proofs.Common.{true≢false, map, replicate, suc, arith, Ordering, Less, Equal, Greater}
use Rattle.std.specs.Ordering.{match_ordering}
use Rattle.std.specs.Prelude.{is_ok}
use Rattle.std.specs.Result.{result_err}
use Rattle.std.specs.declared.option.Option.{Option}
use Rattle.std.specs.declared.vec.Vec.{Vec}
use Rattle.std.specs.List.{All}
use Rattle.std.specs.List.Sorted.{IsStrictlySortedBy}
use Rattle.std.proofs.lemmas.List.{length-replicate}
use Rattle.std.proofs.lemmas.List.Elements.{All-nil}
use Rattle.std.proofs.lemmas.Slice.Eq.{bytes_eq-Decides}
use Rattle.dbe_values.specs.Keys.{has_key, row_key, row_order}
use Rattle.dbe_values.specs.Lawful.{IsLawfulItem}
use Rattle.dbe_values.specs.Val.{Val}
use Rattle.dbe_config.specs.Rules.{is_empty_list}
use Rattle.dbe_item.specs.Sealed.{draw_length, sealed_row}
use Rattle.dbe_item.specs.Ruled.{IsSealing}
use Rattle.dbe_item.specs.Stands.{StandsBy, StandsFor}
use Rattle.dbe_item.proofs.Stood.{stands_with_its_key, sealed_stands}
use Rattle.dbe_config.specs.Setting.{Setting}
use Rattle.dbe_item.specs.Acceptance.{put_fault, or_next, fault_of_key}
use Rattle.dbe_item.specs.declared.fault.PutFault.{PutFault}
use Rattle.dbe_fields.specs.Split.{split_at}
use Rattle.dbe_cond.proofs.Readings.{reads_unique, not_refused}
use Rattle.dbe_cond.specs.Condition.{Condition}
use Rattle.dbe_cond.specs.Reading.{Reads}
use Rattle.dbe_cond.specs.declared.fault.CondFault.{CondFault}
use Rattle.dbe_table.specs.Rows.{Row, IsTable, put_row}
use Rattle.dbe_lines.specs.Requests.{request_of}
use Rattle.dbe_lines.proofs.Empty.{no_request}
use Rattle.dbe_lines.proofs.Plain.{query_is_plain}
use Rattle.dbe_lines.proofs.Refusals.{not_ok, split_not_ok, size_not_ok}
use Rattle.dbe_lines.specs.Texts.{put_text, select_text}
use Rattle.dbe_session.specs.Reply.{Environment, State, Facts, AreFacts, IsReading, IsReadingOf, Reply, handed_out}
use Rattle.dbe_session.specs.Reply.{refused_in, stored_draws, stored_row, is_refused_row, stored_reply, put_draws}
use Rattle.dbe_session.specs.Reply.{unless_refused, query_reply, explain_reply, asked_reply, put_reply, reply_by}
use Rattle.dbe_session.specs.Reply.{reply_in, reply_to}
use Rattle.dbe_session.specs.Steps.{SessionView, Told, IsState, Answered, Unanswered}
use Rattle.dbe_session.specs.Maps.{Items, put_item, with_request, after_line, after_step, select_of, IsAnswer}
use Rattle.dbe_session.specs.Maps.{IsRowOf, AreRows, IsAcceptable, Stands, HasKeys}
use Rattle.dbe_lines.specs.declared.request.Query.{Query}
use Rattle.dbe_lines.specs.declared.request.Request.{Request}
use Rattle.dbe_lines.specs.declared.request.Request.TheVariants as r
use Rattle.dbe_session.specs.declared.session.StepFault.{StepFault}
use Rattle.dbe_session.proofs.Computed.{selected_handed_out}
use Rattle.dbe_session.proofs.Puts.{all_put, ordered_put, put_row-put_item}
use Rattle.dbe_session.proofs.Replies.{asked_state}

-- ---- rows that stand for a map

-- over a plain table a row is the item
row_by : (plain : Bool) (st : Setting) (row item : Row) → plain ≡ true → StandsBy plain st [] row item → row ≡ item
row_by true st row item is h = h
row_by false st row item is h = absurd (true≢false (sym is))

rows_are : (e : Environment) (s : State) (rows m : Items) → is_empty_list e.config.recipients ≡ true →
    AreRows e s rows m → rows ≡ m
rows_are e s [] [] plain h = refl
rows_are e s [] (i ∷ is) plain h = absurd h
rows_are e s (x ∷ xs) [] plain h = absurd h
rows_are e s (x ∷ xs) (i ∷ is) plain h =
    rw (row_by (is_empty_list e.config.recipients) e.config x i plain h.0, rows_are e s xs is plain h.1) refl

-- an acceptable item has a lawful key
key_of_fault : (k : Result (Val × Option Val) (List ℕ)) (rest : Option PutFault) →
    or_next (fault_of_key (result_err k)) rest ≡ None → is_ok k ≡ true
key_of_fault (Ok k) rest is = refl
key_of_fault (Err name) rest is = absurd (cc)

acceptable_key : (e : Environment) (item : Row) → IsAcceptable e item → has_key e.config.schema item ≡ true
acceptable_key e item fits = key_of_fault (row_key e.config.schema item) _ fits.accepted

-- rows with a row put stand for a map with its item put
module _ (e : Environment) (s t : State) (row item : Row) (stands : IsRowOf e t row item) where
  same_order : (x i : Row) → IsRowOf e s x i →
      row_order e.config.schema row x ≡ row_order e.config.schema item i
  same_order x i h = rw (stands_with_its_key e.config [] row item stands, stands_with_its_key e.config [] x i h) refl

  put_by : (o : Ordering) (x i : Row) (xs is put put' : Items) → IsRowOf e s x i → AreRows e s xs is →
      AreRows e t put put' → AreRows e t (match_ordering o (row ∷ x ∷ xs) (row ∷ xs) (x ∷ put))
      (match_ordering o (item ∷ i ∷ is) (item ∷ is) (i ∷ put'))
  put_by Less x i xs is put put' h hs puts = (stands, (h, hs))
  put_by Equal x i xs is put put' h hs puts = (stands, hs)
  put_by Greater x i xs is put put' h hs puts = (h, puts)

  are_put : (rows m : Items) → AreRows e s rows m →
      AreRows e t (put_row e.config.schema row rows) (put_row e.config.schema item m)
  are_put [] [] h = (stands, tt)
  are_put [] (i ∷ is) h = absurd h
  are_put (x ∷ xs) [] h = absurd h
  are_put (x ∷ xs) (i ∷ is) h =
      let P : Ordering → Type 0 = λ o. AreRows e t (put_row e.config.schema row (x ∷ xs)) (match_ordering o (item ∷ i ∷
      is) (item ∷ is) (i ∷ put_row e.config.schema item is)) in
      subst P (same_order x i h.0) (put_by (row_order e.config.schema row x) x i xs is (put_row e.config.schema row xs)
      (put_row e.config.schema item is) h.0 h.1 (are_put xs is h.1))

put_stands : (e : Environment) (s t : State) (m : Items) (row item : Row) → t.rows ≡ put_row e.config.schema row
    s.rows →
    IsRowOf e t row item → IsAcceptable e item → Stands e s m → Stands e t (put_item e.config.schema item m)
put_stands e s t m row item put_is stands fits st =
    let put : put_row e.config.schema item m ≡ put_item e.config.schema item m =
    put_row-put_item e.config.schema item m st.is_map.order in
    let P : Items → Type 0 = λ items. IsTable e.config.schema items in
    let Q : Items → Type 0 = λ items. All (IsAcceptable e) items in
    let R : Items → Type 0 = λ rows. AreRows e t rows (put_item e.config.schema item m) in
    let S : Items → Type 0 = λ items. AreRows e t (put_row e.config.schema row s.rows) items in
    record {
      is_map = subst P put (record {
        keys = all_put e.config.schema item (λ i. has_key e.config.schema i ≡ true) m
            (acceptable_key e item fits) st.is_map.keys;
        order = ordered_put e.config.schema item m st.is_map.order;
      });
      acceptable = subst Q put (all_put e.config.schema item (IsAcceptable e) m fits st.acceptable);
      are_rows = subst R (sym put_is) (subst S put (are_put e s t row item stands s.rows m st.are_rows));
    }

-- the row that is stored for an item stands for it
stored_by : (plain : Bool) (e : Environment) (drawn : List ℕ) (item : Row) → is_empty_list e.config.recipients ≡ plain →
    IsSealing e.config → IsLawfulItem item → put_fault e.config item ≡ None →
    length drawn ≡ (if plain then 0 else draw_length e.config) →
    StandsFor e.config [] (if plain then item else sealed_row e.config drawn [] item) item
stored_by true e drawn item is sealing lawful fits drawn_is =
    let P : Bool → Type 0 = λ b. StandsBy b e.config [] item item in subst P (sym is) refl
stored_by false e drawn item is sealing lawful fits drawn_is =
    sealed_stands e.config drawn item sealing is lawful fits drawn_is

stored_stands : (e : Environment) (s : State) (drawn : List ℕ) (item : Row) → IsSealing e.config → IsLawfulItem item →
    put_fault e.config item ≡ None → length drawn ≡ stored_draws e.config →
    IsRowOf e s (stored_row e.config drawn item) item
stored_stands e s drawn item = stored_by (is_empty_list e.config.recipients) e drawn item refl

all_head : (e : Environment) (i : Row) (is : Items) → All (IsAcceptable e) (i ∷ is) → IsAcceptable e i
all_head e i is h = h 0 i (omega arith)

all_tail : (e : Environment) (i : Row) (is : Items) → All (IsAcceptable e) (i ∷ is) → All (IsAcceptable e) is
all_tail e i is h = λ k d lt. h (suc k) d (omega arith)

-- ---- requests

same_if : {A : Type 0} (t : Bool) (m : A) → (if t then m else m) ≡ m
same_if true m = refl
same_if false m = refl

-- a put, by its fault, its split and the length of its row
module _ (e : Environment) (s : State) (m : Items) (item : Row) (drawn : List ℕ) (sealing : IsSealing e.config)
    (lawful : IsLawfulItem item) (st : Stands e s m) where
  abbrev row : Row
  row = stored_row e.config drawn item

  row_stands : (large : Bool) → put_fault e.config item ≡ None → split_at e.config item ≡ None →
      length drawn ≡ stored_draws e.config → Stands e (stored_reply e s drawn row large).state
      (if bytes_eq (stored_reply e s drawn row large).text put_text then put_item e.config.schema item m else m)
  row_stands true fits whole drawn_is = rw size_not_ok st
  row_stands false fits whole drawn_is =
      rw ((bytes_eq-Decides put_text put_text).1 refl) (put_stands e s (stored_reply e s drawn row false).state m row
      item refl (stored_stands e s drawn item sealing lawful fits drawn_is)
      (record { lawful = lawful; accepted = fits; unsplit = whole }) st)

  put_by_fault : (fault : Option PutFault) (split : Option (List ℕ × List ℕ)) → put_fault e.config item ≡ fault →
      split_at e.config item ≡ split → length drawn ≡ put_draws e.config fault split
      → Stands e (put_reply e s drawn item fault split).state (if bytes_eq (put_reply e s drawn item fault split).text
      put_text then put_item e.config.schema item m else m)
  put_by_fault (Some fault) split fits whole drawn_is = rw (not_ok fault) st
  put_by_fault None (Some at) fits whole drawn_is = rw (split_not_ok at) st
  put_by_fault None None fits whole drawn_is = row_stands (is_refused_row e.config row) fits whole drawn_is

  -- the rows after a put stand for the map with its item, or for the map before
  row_next : (large : Bool) → put_fault e.config item ≡ None → split_at e.config item ≡ None →
      length drawn ≡ stored_draws e.config → Stands e (stored_reply e s drawn row large).state m ⊎
      Stands e (stored_reply e s drawn row large).state (put_item e.config.schema item m)
  row_next true fits whole drawn_is = inl st
  row_next false fits whole drawn_is = inr (put_stands e s (stored_reply e s drawn row false).state m row item refl
      (stored_stands e s drawn item sealing lawful fits drawn_is)
      (record { lawful = lawful; accepted = fits; unsplit = whole }) st)

  next_put : (fault : Option PutFault) (split : Option (List ℕ × List ℕ)) → put_fault e.config item ≡ fault →
      split_at e.config item ≡ split → length drawn ≡ put_draws e.config fault split
      → Stands e (put_reply e s drawn item fault split).state m ⊎
      Stands e (put_reply e s drawn item fault split).state (put_item e.config.schema item m)
  next_put (Some fault) split fits whole drawn_is = inl st
  next_put None (Some at) fits whole drawn_is = inl st
  next_put None None fits whole drawn_is = row_next (is_refused_row e.config row) fits whole drawn_is

-- what is asked leaves the rows
asked_stands : (e : Environment) (s : State) (m : Items) (reply_for : Condition →
    Reply) (reading : Result Condition CondFault) → ((cond : Condition) → (reply_for cond).state ≡ s) → Stands e s m →
    Stands e (asked_reply e s reply_for reading).state m
asked_stands e s m reply_for reading same st = let P : State → Type 0 = λ t. Stands e t m in
    subst P (sym (asked_state e s reply_for reading same)) st

-- one request keeps that the rows stand for the map
module _ (e : Environment) (s : State) (m : Items) (facts : Facts) (sealing : IsSealing e.config) (st : Stands e s m)
  where
    stands_by : (request : Request) → AreFacts e s request facts
        → Stands e (reply_by e s request facts).state (if bytes_eq (reply_by e s request facts).text put_text then
        with_request e.config.schema m request else m)
    stands_by r.NotJson are = rw (same_if (bytes_eq (reply_by e s r.NotJson facts).text put_text) m) st
    stands_by r.Shape are = rw (same_if (bytes_eq (reply_by e s r.Shape facts).text put_text) m) st
    stands_by (r.Value name why) are =
        rw (same_if (bytes_eq (reply_by e s (r.Value name why) facts).text put_text) m) st
    stands_by (r.Key name) are = rw (same_if (bytes_eq (reply_by e s (r.Key name) facts).text put_text) m) st
    stands_by r.NotBuilt are = rw (same_if (bytes_eq (reply_by e s r.NotBuilt facts).text put_text) m) st
    stands_by (r.Put item) are = put_by_fault e s m item facts.drawn sealing are.lawful st (put_fault e.config item)
        (split_at e.config item) refl refl are.drawn
    stands_by (r.Get key) are = rw (same_if (bytes_eq (reply_by e s (r.Get key) facts).text put_text) m) st
    stands_by (r.Check key) are = rw (same_if (bytes_eq (reply_by e s (r.Check key) facts).text put_text) m) st
    stands_by (r.Query q) are = rw (same_if (bytes_eq (reply_by e s (r.Query q) facts).text put_text) m)
        (asked_stands e s m (query_reply e s) facts.reading (λ cond. refl) st)
    stands_by (r.Explain q) are = rw (same_if (bytes_eq (reply_by e s (r.Explain q) facts).text put_text) m)
        (asked_stands e s m (explain_reply e s) facts.reading (λ cond. refl) st)

    -- ---- lines and turns

    pub stands_after_line : (line : List ℕ) → AreFacts e s (request_of e.config line) facts →
        Stands e (reply_in e s line facts).state (after_line e m line (reply_in e s line facts).text)
    stands_after_line [] are = st
    stands_after_line (b ∷ bytes) are = stands_by (request_of e.config (b ∷ bytes)) are

-- what a step answered, and the map after it
module _ (session : SessionView) (e : Environment) (s : State) (m : Items) (line : List ℕ) (old new : Told)
    (sealing : IsSealing session.config) (is : IsState session old e s) (st : Stands e s m) where
  sealing_is : IsSealing e.config
  sealing_is = subst IsSealing is.config sealing

  pub step_stands : (text : List ℕ) → Answered e s line text old new → (s' : State) × IsState session new e s' ×
      Stands e s' (after_line e m line text)
  step_stands text p =
      let P : List ℕ → Type 0 =
      λ l. Stands e (reply_to e s p.turn).state (after_line e m l (reply_to e s p.turn).text) in
      let Q : List ℕ → Type 0 = λ t. Stands e (reply_to e s p.turn).state (after_line e m line t) in (
        (reply_to e s p.turn).state,
        record { config = is.config; rows = p.are_rows },
        subst Q (sym p.is_text) (subst P p.is_line (stands_after_line e s m p.turn.facts sealing_is st p.turn.line
            p.is_turn)),
      )

  pub same_stands : Unanswered e s line old new → (s' : State) × IsState session new e s' × Stands e s' m
  same_stands p = (s, record { config = is.config; rows = p.same_rows }, st)

-- what a step answered keeps the map
pub step_keeps : (session : SessionView) (line : List ℕ) (old new : Told) (result : Result (Vec ℕ Global) StepFault)
    → IsSealing session.config → IfOk result (λ text. (e : Environment) (s : State) → IsState session old e s →
    Answered e s line text.items old new)
    → OnErr result ((e : Environment) (s : State) → IsState session old e s → Unanswered e s line old new)
    → (e : Environment) (s : State) (m : Items) → IsState session old e s → Stands e s m → (after : State) ×
    IsState session new e after × Stands e after (after_step e m line result)
step_keeps session line old new (Ok text) sealing ok err = λ e s m is st.
    step_stands session e s m line old new sealing is st text.items (ok e s is)
step_keeps session line old new (Err fault) sealing ok err = λ e s m is st.
    same_stands session e s m line old new sealing is st (err e s is)

-- a query's reply is that of the map
query_is : (e : Environment) (s : State) (m : Items) (cond : Condition) → is_empty_list e.config.recipients ≡ true →
    Stands e s m → (query_reply e s cond).text ≡ select_text (select_of e cond m) (length (handed_out e s cond))
query_is e s m cond plain st =
    ap (λ items. select_text items (length (handed_out e s cond))) (selected_handed_out e s cond ∙
    ap (select_of e cond) (rows_are e s s.rows m plain st.are_rows))

-- what a query's text reads as
reading_is : (q : Query) (reading : Result Condition CondFault) (cond : Condition) → IsReading q reading →
    Reads q.text q.names q.values cond → reading ≡ Ok cond
reading_is q (Ok d) cond is reads = ap Ok (reads_unique q.text q.names q.values d cond is reads)
reading_is q (Err fault) cond is reads = absurd (is.0 (not_refused q.text q.names q.values cond fault reads is.1))

answer_by : (e : Environment) (s : State) (m : Items) (request : Request) (facts : Facts) (q : Query)
    (cond : Condition) → is_empty_list e.config.recipients ≡ true → IsReadingOf request facts.reading → Stands e s m
    → request ≡ r.Query q → Reads q.text q.names q.values cond → refused_in e s cond ≡ None →
    (reply_by e s request facts).text ≡ select_text (select_of e cond m) (length (handed_out e s cond))
answer_by e s m request facts q cond plain is_reading st is reads unrefused =
    let P : Request → Type 0 = λ request. IsReadingOf request facts.reading in
    let same : facts.reading ≡ Ok cond = reading_is q facts.reading cond (subst P is is_reading) reads in
    ap (λ request. (reply_by e s request facts).text) is
    ∙ ap (λ reading. (asked_reply e s (query_reply e s) reading).text) same
    ∙ ap (λ fault. (unless_refused s fault (query_reply e s cond)).text) unrefused
    ∙ query_is e s m cond plain st

-- an empty line asks nothing
not_query : (q : Query) → r.NotJson ≡ r.Query q → ⊥
not_query q is = (cc)

empty_line : (st : Setting) (q : Query) → request_of st [] ≡ r.Query q → ⊥
empty_line st q is = not_query q (sym (no_request st) ∙ is)

pub answer_of : (e : Environment) (s : State) (m : Items) (line : List ℕ) (facts : Facts) →
    IsReadingOf (request_of e.config line) facts.reading → Stands e s m →
    IsAnswer e s m line (reply_in e s line facts).text
answer_of e s m [] facts is st cond asks = absurd (empty_line e.config asks.query asks.is_query)
answer_of e s m (b ∷ bytes) facts is st cond asks = answer_by e s m (request_of e.config (b ∷ bytes)) facts
    asks.query cond (query_is_plain e.config (b ∷ bytes) asks.query asks.is_query) is st asks.is_query asks.reads
    asks.not_refused

-- the rows after one line more stand for the map after it, or for the map before
module _ (e : Environment) (s : State) (m : Items) (facts : Facts) (sealing : IsSealing e.config) (st : Stands e s m)
  where
    next_by : (request : Request) → AreFacts e s request facts
        → Stands e (reply_by e s request facts).state m ⊎
        Stands e (reply_by e s request facts).state (with_request e.config.schema m request)
    next_by r.NotJson are = inl st
    next_by r.Shape are = inl st
    next_by (r.Value name why) are = inl st
    next_by (r.Key name) are = inl st
    next_by r.NotBuilt are = inl st
    next_by (r.Put item) are = next_put e s m item facts.drawn sealing are.lawful st (put_fault e.config item)
        (split_at e.config item) refl refl are.drawn
    next_by (r.Get key) are = inl st
    next_by (r.Check key) are = inl st
    next_by (r.Query q) are = inl (asked_stands e s m (query_reply e s) facts.reading (λ cond. refl) st)
    next_by (r.Explain q) are = inl (asked_stands e s m (explain_reply e s) facts.reading (λ cond. refl) st)

    pub stands_next : (line : List ℕ) → AreFacts e s (request_of e.config line) facts
        → Stands e (reply_in e s line facts).state m ⊎
        Stands e (reply_in e s line facts).state (after_line e m line put_text)
    stands_next [] are = inl st
    stands_next (b ∷ bytes) are =
        rw ((bytes_eq-Decides put_text put_text).1 refl) (next_by (request_of e.config (b ∷ bytes)) are)

-- the rows that are stored for the items of a map, with zeros in place of drawn bytes
abbrev rows_of : Environment → Items → Items
rows_of e m = map (stored_row e.config (replicate (stored_draws e.config) 0)) m

rows_stand : (e : Environment) (s : State) (m : Items) → IsSealing e.config → All (IsAcceptable e) m →
    AreRows e s (rows_of e m) m
rows_stand e s [] sealing fits = tt
rows_stand e s (i ∷ is) sealing fits = (
  stored_stands e s (replicate (stored_draws e.config) 0) i sealing (all_head e i is fits).lawful
      (all_head e i is fits).accepted (length-replicate (stored_draws e.config) 0),
  rows_stand e s is sealing (all_tail e i is fits),
)

pub state_of_map : (e : Environment) (m : Items) → HasKeys e → IsTable e.config.schema m → All (IsAcceptable e) m →
    (s : State) × Stands e s m
state_of_map e m keys table fits = (
  record { rows = rows_of e m },
  record {
    is_map = table;
    acceptable = fits;
    are_rows = rows_stand e (record { rows = rows_of e m }) m keys fits;
  },
)

pub nothing_stands : (e : Environment) (s : State) → s.rows ≡ [] → Stands e s []
unfolding IsStrictlySortedBy
nothing_stands e s none = let P : Items → Type 0 = λ rows. AreRows e s rows [] in record {
  is_map = record { keys = All-nil (λ row. has_key e.config.schema row ≡ true); order = tt };
  acceptable = All-nil (IsAcceptable e);
  are_rows = subst P (sym none) tt;
}
