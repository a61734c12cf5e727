-- Replies of a table that answered.
use Rattle.std.proofs.Common.{◌≡◌, ◌⊎◌, ◌≢◌, ℕ, List, [], ◌∷◌, true, false, true≢false, suc, arith, ◌==◌, length, inl}
use Rattle.std.proofs.Common.{inr, Option, Some, None, Result, Ok, Err, IfSome, IfOk, OnErr, refl, sym, ap, ◌∙◌}
use Rattle.std.proofs.Common.{subst, Bool, not, ◌&&◌, codes, if◌then◌else◌}
use Rattle.std.specs.Io.KnownBytes.{Consumes, Keeps}
use Rattle.dbe_values.specs.declared.key.KeySchema.{KeySchema}
use Rattle.dbe_values.specs.declared.key.KeyValue.{KeyValue}
use Rattle.dbe_values.specs.KeyValues.{key_view}
use Rattle.dbe_config.specs.Setting.{Setting}
use Rattle.dbe_item.specs.Acceptance.{put_fault}
use Rattle.dbe_item.specs.declared.fault.PutFault.{PutFault}
use Rattle.dbe_item.specs.declared.open_fault.OpenFault.{OpenFault}
use Rattle.dbe_item.specs.declared.open_fault.OpenFault.TheVariants as o
use Rattle.dbe_item.specs.declared.unsealing.Opened.{Opened}
use Rattle.dbe_item.specs.Opens.{OpensBy, AreCountsBy}
use Rattle.dbe_item.specs.Sealed.{draw_length, sealed_row}
use Rattle.dbe_item.specs.Unsealed.{IsOpening}
use Rattle.dbe_config.specs.Rules.{is_empty_list}
use Rattle.dbe_cond.specs.declared.fault.CondFault.TheVariants as c
use Rattle.dbe_fields.specs.Split.{split_at}
use Rattle.dbe_table.specs.Rows.{Row, row_at, put_row, wanted_rows, risen, found_count}
use Rattle.dbe_cond.specs.declared.wanted.Wanted.{Wanted}
use Rattle.std.proofs.lemmas.Bool.Decides.{nat_tests}
use Rattle.dbe_cond.specs.Condition.{Condition}
use Rattle.dbe_cond.specs.Reading.{Reads, Refuses}
use Rattle.dbe_cond.specs.declared.fault.CondFault.{CondFault}
use Rattle.dbe_values.specs.Lawful.{IsLawfulItem}
use Rattle.dbe_lines.specs.Requests.{request_of, HasLawfulItem}
use Rattle.dbe_lines.proofs.Empty.{no_request}
use Rattle.dbe_lines.specs.Texts.{put_text, none_text, checked_text, refused_text}
use Rattle.dbe_lines.specs.Texts.{is_large_row, split_text, put_refusal, cond_refusal, rewrite_refusal}
use Rattle.dbe_session.specs.Reply.{Environment, State, Facts, Turn, Reply, AreFacts, IsReadingOf, IsOpeningOf}
use Rattle.dbe_session.specs.Reply.{IsOpeningFor, answer, opened_text, found_text, checked_row, check_text, row_of}
use Rattle.dbe_session.specs.Reply.{stored_row, is_refused_row, stored_reply, row_reply, stored_draws}
use Rattle.dbe_session.specs.Reply.{put_draws, draws_for, put_reply}
use Rattle.dbe_session.specs.Reply.{handed_out, selection_text, query_reply}
use Rattle.dbe_session.specs.Reply.{explain_reply, refused_in, unless_refused, asked_reply, reply_by, reply_to}
use Rattle.dbe_session.specs.Steps.{SessionView, Told, told, IsState, RequestAnswered, RequestUnanswered, Answered}
use Rattle.dbe_session.specs.Steps.{Unanswered, DrawsAtMost, Stored, IsReadTurn, IsReply, IsGivenBy}
use Rattle.dbe_lines.specs.declared.fault.RewriteFault.{RewriteFault}
use Rattle.dbe_lines.specs.declared.request.Query.{Query}
use Rattle.dbe_lines.specs.declared.request.Request.{Request}
use Rattle.dbe_lines.specs.declared.request.Request.TheVariants as r
use Rattle.dbe_session.proofs.Counts.{risen_none}

pub on_err : {A E : Type 0} (answer : Result A E) (P : Type 0) → P → OnErr answer P
on_err (Ok a) P p = tt
on_err (Err e) P p = p

pub on_ok : {A E : Type 0} (answer : Result A E) (P : A → Type 0) (a : A) → answer ≡ Ok a → P a → IfOk answer P
on_ok answer P a is p = let Q : Result _ _ → Type 0 = λ answer. IfOk answer P in subst Q (sym is) p

some_at : {A : Type 0} (o : Option A) (P : A → Type 0) (a : A) → o ≡ Some a → IfSome o P → P a
some_at o P a is h = let Q : Option _ → Type 0 = λ o. IfSome o P in subst Q is h

-- the keys that a table has begun with
begun_in : (session : SessionView) (e : Environment) (s : State) (begun : Option KeySchema) (objects : Told) →
    IsState session objects e s → begun ≡ Some session.config.schema → begun ≡ Some e.config.schema
begun_in session e s begun objects is is_begun = is_begun ∙ ap (λ (st : Setting). Some st.schema) is.config

-- no bytes are taken
pub none_taken : (dice : Option (List ℕ)) → Consumes dice dice []
none_taken None = tt
none_taken (Some bytes) = refl

pub all_kept : (dice : Option (List ℕ)) → Keeps dice dice
all_kept None = tt
all_kept (Some bytes) = refl

pub draws_none : (st : Setting) (dice : Option (List ℕ)) → DrawsAtMost st dice dice
draws_none st dice = inl (all_kept dice)

-- facts of a request for which nothing is drawn
abbrev pub undrawn : Result Condition CondFault → Result Opened OpenFault → Facts
undrawn reading opening = record { reading = reading; opening = opening; drawn = [] }

-- facts of a request that asks nothing and opens no row
abbrev pub no_facts : List ℕ → Facts
no_facts drawn = record { reading = Err c.Memory; opening = Err o.Memory; drawn = drawn }

-- a table's row for a key
module _ (session : SessionView) (e : Environment) (s : State) (key : KeyValue) (begun : Option KeySchema)
    (rows rows' : Option (List Row)) (before after : ℕ) (dice : Option (List ℕ)) (found : Option Row)
    (is_begun : begun ≡ Some session.config.schema)
    (is : IsState session (told rows before dice) e s) (answered : IfSome begun
    (λ schema. IfSome rows (λ b. found ≡ row_at schema (key_view key) b))) (same : rows' ≡ rows)
    (given : after ≡ risen before (found_count found)) where
  found_is : found ≡ row_of e s key
  found_is = some_at rows (λ b. found ≡ row_at e.config.schema (key_view key) b) s.rows is.rows
      (some_at begun (λ schema. IfSome rows (λ b. found ≡ row_at schema (key_view key) b)) e.config.schema
      (begun_in session e s begun _ is is_begun) answered)

  given_is : after ≡ risen before (found_count (row_of e s key))
  given_is = given ∙ ap (λ f. risen before (found_count f)) found_is

  opening_is : (opening : Result Opened OpenFault) → IsOpeningOf session.config found opening →
      IsOpeningOf e.config (row_of e s key) opening
  opening_is opening opens =
      let P : Setting → Type 0 = λ st. IsOpeningOf st found opening in
      let Q : Option Row → Type 0 = λ f. IsOpeningOf e.config f opening in
      subst Q found_is (subst P is.config opens)

  got : (opening : Result Opened OpenFault) (text : List ℕ) → IsOpeningOf session.config found opening →
      text ≡ found_text session.config key opening found →
      RequestAnswered e s (r.Get key) text (told rows before dice) (told rows' after dice)
  got opening text opens is_text = record {
    facts = undrawn (Err c.Memory) opening;
    are_facts = record { lawful = tt; reading = tt; opening = opening_is opening opens; drawn = refl };
    is_text =
        is_text ∙ ap (λ st. found_text st key opening found) is.config ∙
        ap (found_text e.config key opening) found_is;
    are_rows = same ∙ is.rows;
    given = given_is;
    dice = none_taken dice;
  }

  looked : (opening : Result Opened OpenFault) (text : List ℕ) → IsOpeningOf session.config found opening →
      text ≡ check_text session.config key opening found →
      RequestAnswered e s (r.Check key) text (told rows before dice) (told rows' after dice)
  looked opening text opens is_text = record {
    facts = undrawn (Err c.Memory) opening;
    are_facts = record { lawful = tt; reading = tt; opening = opening_is opening opens; drawn = refl };
    is_text =
        is_text ∙ ap (λ st. check_text st key opening found) is.config ∙
        ap (check_text e.config key opening) found_is;
    are_rows = same ∙ is.rows;
    given = given_is;
    dice = none_taken dice;
  }

  opens_some : (row : Row) (opening : Result Opened OpenFault) → found ≡ Some row → IsOpening session.config row opening
      → IsOpeningOf session.config found opening
  opens_some row opening some opens = let P : Option Row → Type 0 = λ f. IsOpeningOf session.config f opening in
      subst P (sym some) opens

  opens_none : (opening : Result Opened OpenFault) → found ≡ None → IsOpeningOf session.config found opening
  opens_none opening none = let P : Option Row → Type 0 = λ f. IsOpeningOf session.config f opening in
      subst P (sym none) tt

  -- a row that was found, and what it opens to
  pub got_row : (row : Row) (text : List ℕ) → found ≡ Some row → (opening : Result Opened OpenFault) ×
      IsOpening session.config row opening × (text ≡ opened_text session.config key opening) →
      RequestAnswered e s (r.Get key) text (told rows before dice) (told rows' after dice)
  got_row row text some p = got p.0 text (opens_some row p.0 some p.1)
      (p.2 ∙ ap (found_text session.config key p.0) (sym some))

  pub got_none : (text : List ℕ) → found ≡ None → text ≡ none_text →
      RequestAnswered e s (r.Get key) text (told rows before dice) (told rows' after dice)
  got_none text none is_text = got (Err o.Memory) text (opens_none (Err o.Memory) none)
      (is_text ∙ ap (found_text session.config key (Err o.Memory)) (sym none))

  pub looked_row : (row : Row) (text : List ℕ) → found ≡ Some row → (opening : Result Opened OpenFault) ×
      IsOpening session.config row opening × (text ≡ checked_row session.config key opening row) →
      RequestAnswered e s (r.Check key) text (told rows before dice) (told rows' after dice)
  looked_row row text some p = looked p.0 text (opens_some row p.0 some p.1)
      (p.2 ∙ ap (check_text session.config key p.0) (sym some))

  pub looked_none : (text : List ℕ) → found ≡ None → text ≡ none_text →
      RequestAnswered e s (r.Check key) text (told rows before dice) (told rows' after dice)
  looked_none text none is_text = looked (Err o.Memory) text (opens_none (Err o.Memory) none)
      (is_text ∙ ap (check_text session.config key (Err o.Memory)) (sym none))

  pub not_got : RequestUnanswered e s (r.Get key) (told rows before dice) (told rows' after dice)
  not_got = record { same_rows = same ∙ is.rows; given = inr (no_facts [], tt, given_is); dice = inl (all_kept dice) }

  pub not_looked : RequestUnanswered e s (r.Check key) (told rows before dice) (told rows' after dice)
  not_looked =
      record { same_rows = same ∙ is.rows; given = inr (no_facts [], tt, given_is); dice = inl (all_kept dice) }

-- ---- what is stored

stored_given : (e : Environment) (s : State) (drawn : List ℕ) (row : Row) (large : Bool) →
    (stored_reply e s drawn row large).given ≡ 0
stored_given e s drawn row true = refl
stored_given e s drawn row false = refl

stored_drawn : (e : Environment) (s : State) (drawn : List ℕ) (row : Row) (large : Bool) →
    (stored_reply e s drawn row large).drawn ≡ drawn
stored_drawn e s drawn row true = refl
stored_drawn e s drawn row false = refl

-- ---- rows of a plain table

-- a plain row opens to itself
abbrev pub plain_opened : Row → Opened
plain_opened row = record { item = row; recipient = 0; encrypted = 0; signed = 0 }

pub plain_opening : (st : Setting) (row : Row) → is_empty_list st.recipients ≡ true →
    IsOpening st row (Ok (plain_opened row))
plain_opening st row is = let P : Bool → Type 0 = λ b. OpensBy b st row row 0 × AreCountsBy b row 0 0 in
    subst P (sym is) ((refl, refl), (refl, refl))

pub plain_checked : (st : Setting) (key : KeyValue) (row : Row) → is_empty_list st.recipients ≡ true →
    checked_text true 0 None 0 ≡ checked_row st key (Ok (plain_opened row)) row
plain_checked st key row is = rw is refl

-- ---- rows that are stored

module _ (session : SessionView) (e : Environment) (s : State) (rows : Option (List Row)) (count : ℕ)
    (dice dice' : Option (List ℕ)) (is : IsState session (told rows count dice) e s) (item : Row) where
  kind : (b : Bool) → is_empty_list session.config.recipients ≡ b → is_empty_list e.config.recipients ≡ b
  kind b h = ap (λ st. is_empty_list st.recipients) (sym is.config) ∙ h

  put_among : (rows' : Option (List Row)) (row : Row) →
      IfSome rows (λ b. rows' ≡ Some (put_row session.config.schema row b)) →
      rows' ≡ Some (put_row e.config.schema row s.rows)
  put_among rows' row put = some_at rows (λ b. rows' ≡ Some (put_row session.config.schema row b)) s.rows is.rows put ∙
      ap (λ (st : Setting). Some (put_row st.schema row s.rows)) is.config

  plain_reply_is : is_empty_list e.config.recipients ≡ true →
      row_reply e s [] (stored_row e.config [] item) ≡ stored_reply e s [] item false
  plain_reply_is h = rw h refl

  -- over a plain table the item is the row
  pub stored_plain : (rows' : Option (List Row)) (count' : ℕ) (text : List ℕ) → is_empty_list
      session.config.recipients ≡ true →
      IfSome rows (λ b. rows' ≡ Some (put_row session.config.schema item b)) → text ≡ put_text →
      Stored e s item text (told rows count dice) (told rows' count' dice)
  stored_plain rows' count' text plain put is_text =
      let reply = plain_reply_is (kind true plain) in
      record {
        drawn = [];
        are_drawn = ap (λ b. if b then 0 else draw_length e.config) (sym (kind true plain));
        is_text = is_text ∙ ap (λ (r : Reply). r.text) (sym reply);
        are_rows = put_among rows' item put ∙ ap (λ (r : Reply). Some r.state.rows) (sym reply);
        dice = none_taken dice;
      }

  module _ (row : Row) (drawn : List ℕ) (encrypted : is_empty_list session.config.recipients ≡ false)
      (drawn_is : length drawn ≡ draw_length session.config) (taken : Consumes dice dice' drawn)
      (row_is : row ≡ sealed_row session.config drawn [] item) where
    drawn_length : length drawn ≡ stored_draws e.config
    drawn_length = drawn_is ∙ ap draw_length is.config ∙
        ap (λ b. if b then 0 else draw_length e.config) (sym (kind false encrypted))

    stored_is : stored_row e.config drawn item ≡ row
    stored_is = ap (λ b. if b then item else sealed_row e.config drawn [] item) (kind false encrypted) ∙
        ap (λ st. sealed_row st drawn [] item) (sym is.config) ∙ sym row_is

    refused_is : (large : Bool) → large ≡ is_large_row row → is_refused_row e.config row ≡ large
    refused_is large h = ap (λ b. not b && is_large_row row) (kind false encrypted) ∙ sym h

    sealed_reply : (large : Bool) → large ≡ is_large_row row →
        row_reply e s drawn (stored_row e.config drawn item) ≡ stored_reply e s drawn row large
    sealed_reply large h = ap (row_reply e s drawn) stored_is ∙ ap (stored_reply e s drawn row) (refused_is large h)

    -- a sealed row that is too long
    pub stored_large : (large : Bool) (text : List ℕ) → large ≡ is_large_row row → large ≡ true →
        text ≡ refused_text (codes "size") → Stored e s item text (told rows count dice) (told rows count dice')
    stored_large large text large_is is_long is_text =
        let reply = sealed_reply large large_is ∙ ap (stored_reply e s drawn row) is_long in
        record {
          drawn = drawn;
          are_drawn = drawn_length;
          is_text = is_text ∙ ap (λ (r : Reply). r.text) (sym reply);
          are_rows = is.rows ∙ ap (λ (r : Reply). Some r.state.rows) (sym reply);
          dice = taken;
        }

    -- one that is stored
    pub stored_sealed : (large : Bool) (rows' : Option (List Row)) (count' : ℕ) (text : List ℕ) → large ≡
        is_large_row row →
        large ≡ false → IfSome rows (λ b. rows' ≡ Some (put_row session.config.schema row b)) → text ≡ put_text →
        Stored e s item text (told rows count dice) (told rows' count' dice')
    stored_sealed large rows' count' text large_is is_short put is_text =
        let reply = sealed_reply large large_is ∙ ap (stored_reply e s drawn row) is_short in
        record {
          drawn = drawn;
          are_drawn = drawn_length;
          is_text = is_text ∙ ap (λ (r : Reply). r.text) (sym reply);
          are_rows = put_among rows' row put ∙ ap (λ (r : Reply). Some r.state.rows) (sym reply);
          dice = taken;
        }

-- a put, by its fault and its split
module _ (session : SessionView) (e : Environment) (s : State) (rows : Option (List Row)) (count : ℕ)
    (dice : Option (List ℕ)) (is : IsState session (told rows count dice) e s) (item : Row)
    (lawful : IsLawfulItem item) where
  put_by : (drawn : List ℕ) (fault : Option PutFault) (split : Option (List ℕ × List ℕ)) →
      put_fault session.config item ≡ fault → split_at session.config item ≡ split →
      put_reply e s drawn item (put_fault e.config item) (split_at e.config item) ≡ put_reply e s drawn item fault split
  put_by drawn fault split fits whole =
      ap (λ f. put_reply e s drawn item f (split_at e.config item)) (ap (λ st. put_fault st item) (sym is.config) ∙
      fits) ∙ ap (put_reply e s drawn item fault) (ap (λ st. split_at st item) (sym is.config) ∙ whole)

  draws_by : (fault : Option PutFault) (split : Option (List ℕ × List ℕ)) → put_fault session.config item ≡ fault →
      split_at session.config item ≡ split → draws_for e.config (r.Put item) ≡ put_draws e.config fault split
  draws_by fault split fits whole =
      ap (λ f. put_draws e.config f (split_at e.config item)) (ap (λ st. put_fault st item) (sym is.config) ∙
      fits) ∙ ap (put_draws e.config fault) (ap (λ st. split_at st item) (sym is.config) ∙ whole)

  -- a put that was made, or whose row is too long
  pub put_made : (rows' : Option (List Row)) (after : ℕ) (dice' : Option (List ℕ)) (text : List ℕ) →
      put_fault session.config item ≡ None → split_at session.config item ≡ None → after ≡ count →
      Stored e s item text (told rows count dice) (told rows' after dice') →
      RequestAnswered e s (r.Put item) text (told rows count dice) (told rows' after dice')
  put_made rows' after dice' text fits whole given stored =
      let drawn : List ℕ = stored.drawn in
      let row : Row = stored_row e.config drawn item in
      let reply = put_by drawn None None fits whole in
      let P : List ℕ → Type 0 = λ bytes. Consumes dice dice' bytes in
      record {
        facts = no_facts drawn;
        are_facts = record {
          lawful = lawful;
          reading = tt;
          opening = tt;
          drawn = stored.are_drawn ∙ sym (draws_by None None fits whole);
        };
        is_text = stored.is_text ∙ ap (λ (r : Reply). r.text) (sym reply);
        are_rows = stored.are_rows ∙ ap (λ (r : Reply). Some r.state.rows) (sym reply);
        given = given ∙ sym (risen_none count) ∙ ap (risen count) (sym (ap (λ (r : Reply). r.given) reply ∙
            stored_given e s drawn row (is_refused_row e.config row)));
        dice = subst P (sym (ap (λ (r : Reply). r.drawn) reply ∙ stored_drawn e s drawn row
            (is_refused_row e.config row))) stored.dice;
      }

  pub not_put : (rows' : Option (List Row)) (after : ℕ) (dice' : Option (List ℕ)) → rows' ≡ rows → after ≡ count →
      DrawsAtMost session.config dice dice' →
      RequestUnanswered e s (r.Put item) (told rows count dice) (told rows' after dice')
  not_put rows' after dice' same given drawn = let P : Setting → Type 0 = λ st. DrawsAtMost st dice dice' in record {
    same_rows = same ∙ is.rows;
    given = inl given;
    dice = subst P is.config drawn;
  }

  -- a put that leaves the state, and for which nothing is drawn
  put_left : (text : List ℕ) (fault : Option PutFault) (split : Option (List ℕ × List ℕ)) →
      put_fault session.config item ≡ fault → split_at session.config item ≡ split → 0 ≡ put_draws e.config fault split
      → put_reply e s [] item fault split ≡ answer s text 0 →
      RequestAnswered e s (r.Put item) text (told rows count dice) (told rows count dice)
  put_left text fault split fits whole draws reply =
      let all = put_by [] fault split fits whole ∙ reply in
      let P : List ℕ → Type 0 = λ bytes. Consumes dice dice bytes in
      record {
        facts = no_facts [];
        are_facts = record {
          lawful = lawful;
          reading = tt;
          opening = tt;
          drawn = draws ∙ sym (draws_by fault split
              fits whole);
        };
        is_text = ap (λ (r : Reply). r.text) (sym all);
        are_rows = is.rows ∙ ap (λ (r : Reply). Some r.state.rows) (sym all);
        given = sym (risen_none count) ∙ ap (λ (r : Reply). risen count r.given) (sym all);
        dice = subst P (ap (λ (r : Reply). r.drawn) (sym all)) (none_taken dice);
      }

  -- a put that is refused
  pub put_refused : (fault : PutFault) (text : List ℕ) → put_fault session.config item ≡ Some fault →
      text ≡ put_refusal fault →
      RequestAnswered e s (r.Put item) text (told rows count dice) (told rows count dice)
  put_refused fault text refused is_text = put_left text (Some fault) (split_at session.config item) refused refl refl
      (ap (λ t. answer s t 0) (sym is_text))

  pub put_split : (at : List ℕ × List ℕ) (text : List ℕ) → put_fault session.config item ≡ None →
      Some at ≡ split_at session.config item → text ≡ split_text at →
      RequestAnswered e s (r.Put item) text (told rows count dice) (told rows count dice)
  put_split at text fits split is_text = put_left text None (Some at) fits (sym split) refl
      (ap (λ t. answer s t 0) (sym is_text))

-- a request that does not come to the table
pub settled : (session : SessionView) (e : Environment) (s : State) (objects : Told) (is : IsState session objects e
    s) (request : Request) (reading : Result Condition CondFault) (text : List ℕ) → HasLawfulItem request →
    IsReadingOf request reading → IsOpeningFor e s request (Err o.Memory) → 0 ≡ draws_for e.config request →
    reply_by e s request (undrawn reading (Err o.Memory)) ≡ answer s text 0 →
    RequestAnswered e s request text objects objects
settled session e s objects is request reading text lawful is_reading opens draws reply =
    let P : List ℕ → Type 0 = λ bytes. Consumes objects.dice objects.dice bytes in
    record {
      facts = undrawn reading (Err o.Memory);
      are_facts = record { lawful = lawful; reading = is_reading; opening = opens; drawn = draws };
      is_text = ap (λ (r : Reply). r.text) (sym reply);
      are_rows = is.rows ∙ ap (λ (r : Reply). Some r.state.rows) (sym reply);
      given = sym (risen_none objects.given) ∙ ap (λ (r : Reply). risen objects.given r.given) (sym reply);
      dice = subst P (ap (λ (r : Reply). r.drawn) (sym reply)) (none_taken objects.dice);
    }

pub plain_reply : (session : SessionView) (e : Environment) (s : State) (objects : Told) (is : IsState session objects
    e s) (request : Request) (text told_text : List ℕ) → text ≡ told_text → HasLawfulItem request → IsReadingOf
    request (Err c.Memory) →
    IsOpeningFor e s request (Err o.Memory) → 0 ≡ draws_for e.config request →
    reply_by e s request (no_facts []) ≡ answer s told_text 0 → RequestAnswered e s request text objects objects
plain_reply session e s objects is request text told_text is_text lawful is_reading opens draws reply =
    settled session e s objects is request (Err c.Memory) text lawful is_reading opens draws
    (reply ∙ ap (λ t. answer s t 0) (sym is_text))

-- a reply that leaves the state, unless its condition is refused
unless_state : (s : State) (fault : Option RewriteFault) (reply : Reply) → reply.state ≡ s →
    (unless_refused s fault reply).state ≡ s
unless_state s None reply is = is
unless_state s (Some fault) reply is = refl

unless_drawn : (s : State) (fault : Option RewriteFault) (reply : Reply) → reply.drawn ≡ [] →
    (unless_refused s fault reply).drawn ≡ []
unless_drawn s None reply is = is
unless_drawn s (Some fault) reply is = refl

pub asked_state : (e : Environment) (s : State) (reply_for : Condition → Reply) (reading : Result Condition CondFault)
    → ((cond : Condition) → (reply_for cond).state ≡ s) → (asked_reply e s reply_for reading).state ≡ s
asked_state e s reply_for (Ok cond) is = unless_state s (refused_in e s cond) (reply_for cond) (is cond)
asked_state e s reply_for (Err fault) is = refl

-- the rows that a table returned for a condition
pub selected : (session : SessionView) (e : Environment) (s : State) (cond : Condition) (wanted : Wanted)
    (rows : Option (List Row)) (before after : ℕ) (found : List Row) (text : List ℕ) →
    IsState session (told rows before None) e s
    → ((e : Environment) (s : State) → session.config ≡ e.config → wanted_rows wanted s.rows ≡ handed_out e s cond) →
    IfSome rows (λ b. found ≡ wanted_rows wanted b) → after ≡ risen before (length found) →
    text ≡ selection_text e s cond found
    → IsReply (query_reply e s cond) text before after
selected session e s cond wanted rows before after found text is wants answered given is_text =
    let found_is : found ≡ handed_out e s cond = some_at rows (λ b. found ≡ wanted_rows wanted b) s.rows is.rows
    answered ∙ wants e s is.config in
    record {
      is_text = is_text ∙ ap (selection_text e s cond) found_is;
      given = given ∙
          ap (λ f. risen before (length f)) found_is;
    }

-- a search for a condition, which is refused or not
module _ (e : Environment) (s : State) (cond asked : Condition) (same : cond ≡ asked) (found : Option RewriteFault)
    (is : found ≡ refused_in e s cond) where
  is_refused : found ≡ refused_in e s asked
  is_refused = is ∙ ap (refused_in e s) same

  pub refusal_is : (fault : RewriteFault) (text : List ℕ) (count : ℕ) → found ≡ Some fault →
      text ≡ rewrite_refusal fault → IsReply (unless_refused s (refused_in e s asked) (query_reply e s asked)) text
      count count
  refusal_is fault text count some is_text =
      let P : Option RewriteFault → Type 0 = λ f. IsReply (unless_refused s f (query_reply e s asked)) text count
      count in
      subst P (sym some ∙ is_refused) (record { is_text = is_text; given = sym (risen_none count) })

  asked_is : found ≡ None → query_reply e s cond ≡ unless_refused s (refused_in e s asked) (query_reply e s asked)
  asked_is none = ap (query_reply e s) same ∙ ap (λ f. unless_refused s f (query_reply e s asked)) (sym none ∙
      is_refused)

  pub searched : (text : List ℕ) (before after : ℕ) → found ≡ None →
      IsReply (query_reply e s cond) text before after →
      IsReply (unless_refused s (refused_in e s asked) (query_reply e s asked)) text before after
  searched text before after none p = let P : Reply → Type 0 = λ reply. IsReply reply text before after in
      subst P (asked_is none) p

  pub not_searched : (before after : ℕ) → found ≡ None → IsGivenBy (query_reply e s cond) before after →
      IsGivenBy (unless_refused s (refused_in e s asked) (query_reply e s asked)) before after
  not_searched before after none p = let P : Reply → Type 0 = λ reply. IsGivenBy reply before after in
      subst P (asked_is none) p

-- a query whose condition was read
module _ (e : Environment) (s : State) (q : Query) (cond : Condition) (rows rows' : Option (List Row))
    (before after : ℕ) (dice : Option (List ℕ)) (reads : Reads q.text q.names q.values cond) (are : rows ≡ Some s.rows)
    (same : rows' ≡ rows) where
  pub answered : (text : List ℕ) → IsReply (unless_refused s (refused_in e s cond) (query_reply e s cond)) text before
      after → RequestAnswered e s (r.Query q) text (told rows before dice) (told rows' after dice)
  answered text is =
      let P : List ℕ → Type 0 = λ bytes. Consumes dice dice bytes in
      record {
        facts = undrawn (Ok cond) (Err o.Memory);
        are_facts = record { lawful = tt; reading = reads; opening = tt; drawn = refl };
        is_text = is.is_text;
        are_rows = same ∙ are ∙
            ap (λ (t : State). Some t.rows) (sym (unless_state s (refused_in e s cond) (query_reply e s cond) refl));
        given = is.given;
        dice = subst P (sym (unless_drawn s (refused_in e s cond) (query_reply e s cond) refl)) (none_taken dice);
      }

  pub not_answered : IsGivenBy (unless_refused s (refused_in e s cond) (query_reply e s cond)) before after →
      RequestUnanswered e s (r.Query q) (told rows before dice) (told rows' after dice)
  not_answered (inl given) = record { same_rows = same ∙ are; given = inl given; dice = inl (all_kept dice) }
  not_answered (inr given) = record {
    same_rows = same ∙ are;
    given = inr (undrawn (Ok cond) (Err o.Memory), reads, given);
    dice = inl (all_kept dice);
  }

-- a query whose condition is refused
pub cond_refused : (session : SessionView) (e : Environment) (s : State) (objects : Told)
    (is : IsState session objects e s) (q : Query) (fault : CondFault) (text : List ℕ) → fault ≢ c.Memory →
    Refuses q.text q.names q.values fault → text ≡ cond_refusal fault
    → RequestAnswered e s (r.Query q) text objects objects
cond_refused session e s objects is q fault text told_fault refuses is_text =
    settled session e s objects is (r.Query q) (Err fault) text tt (
      told_fault,
      refuses,
    ) tt refl (ap (λ t. answer s t 0) (sym is_text))

-- an explain
explain_is : (e : Environment) (s : State) (cond : Condition) (fault : Option RewriteFault) →
    unless_refused s fault (explain_reply e s cond) ≡ answer s (unless_refused s fault (explain_reply e s cond)).text 0
explain_is e s cond None = refl
explain_is e s cond (Some fault) = refl

pub explained : (session : SessionView) (e : Environment) (s : State) (objects : Told) (is : IsState session objects e
    s) (q : Query) (cond : Condition) (text : List ℕ) → Reads q.text q.names q.values cond
    → text ≡ (unless_refused s (refused_in e s cond) (explain_reply e s cond)).text →
    RequestAnswered e s (r.Explain q) text objects objects
explained session e s objects is q cond text reads is_text = settled session e s objects is (r.Explain q) (Ok cond)
    text tt reads tt refl (explain_is e s cond (refused_in e s cond) ∙ ap (λ t. answer s t 0) (sym is_text))

pub explain_refused : (session : SessionView) (e : Environment) (s : State) (objects : Told)
    (is : IsState session objects e s) (q : Query) (fault : CondFault) (text : List ℕ) → fault ≢ c.Memory →
    Refuses q.text q.names q.values fault → text ≡ cond_refusal fault
    → RequestAnswered e s (r.Explain q) text objects objects
explain_refused session e s objects is q fault text told_fault refuses is_text =
    settled session e s objects is (r.Explain q) (Err fault) text tt (
      told_fault,
      refuses,
    ) tt refl (ap (λ t. answer s t 0) (sym is_text))

-- ---- lines

-- a line that is not empty gets the reply to its request
line_answered : (e : Environment) (s : State) (line text : List ℕ) (old new : Told) → line ≢ [] →
    RequestAnswered e s (request_of e.config line) text old new → Answered e s line text old new
line_answered e s [] text old new some p = absurd (some refl)
line_answered e s (b ∷ bytes) text old new some p = record {
  turn = record { line = b ∷ bytes; facts = p.facts };
  is_line = refl;
  is_turn = p.are_facts;
  is_text = p.is_text;
  are_rows = p.are_rows;
  given = p.given;
  dice = p.dice;
}

given_kept : (e : Environment) (s : State) (b : ℕ) (bytes : List ℕ) (before after : ℕ) → (after ≡ before) ⊎
    ((facts : Facts) × IsReadingOf (request_of e.config (b ∷ bytes)) facts.reading ×
    (after ≡ risen before (reply_by e s (request_of e.config (b ∷ bytes)) facts).given))
    → (after ≡ before) ⊎ ((turn : Turn) × IsReadTurn e (b ∷ bytes) turn ×
    (after ≡ risen before (reply_to e s turn).given))
given_kept e s b bytes before after (inl same) = inl same
given_kept e s b bytes before after (inr p) =
    inr (record { line = b ∷ bytes; facts = p.0 }, record { is_line = refl; reading = p.1 }, p.2)

line_unanswered : (e : Environment) (s : State) (line : List ℕ) (old new : Told) → line ≢ [] →
    RequestUnanswered e s (request_of e.config line) old new → Unanswered e s line old new
line_unanswered e s [] old new some p = absurd (some refl)
line_unanswered e s (b ∷ bytes) old new some p = record {
  same_rows = p.same_rows;
  given = given_kept e s b bytes old.given new.given p.given;
  dice = p.dice;
}

-- ---- an empty line

pub empty_line : (session : SessionView) (e : Environment) (s : State) (objects : Told) (is : IsState session objects
    e s) (line text : List ℕ) → line ≡ [] → text ≡ [] → Answered e s line text objects objects
empty_line session e s objects is line text empty is_text =
    let P : Request → Type 0 = λ request. AreFacts e s request (no_facts []) in
    record {
      turn = record { line = []; facts = no_facts [] };
      is_line = sym empty;
      is_turn = subst P (sym (no_request e.config)) (record { lawful = tt; reading = tt; opening = tt; drawn = refl });
      is_text = is_text;
      are_rows = is.rows;
      given = sym (risen_none objects.given);
      dice = none_taken objects.dice;
    }

-- what a call answered, handed on
pub then_ok : {A E : Type 0} (answer : Result A E) (P Q : A → Type 0) → ((a : A) → P a → Q a) → IfOk answer P →
    IfOk answer Q
then_ok (Ok a) P Q f p = f a p
then_ok (Err e) P Q f p = tt

pub both_ok : {A E : Type 0} (answer : Result A E) (P Q R : A → Type 0) → ((a : A) → P a → Q a → R a) →
    IfOk answer P → IfOk answer Q → IfOk answer R
both_ok (Ok a) P Q R f p q = f a p q
both_ok (Err e) P Q R f p q = tt

pub then_err : {A E : Type 0} (answer : Result A E) (P Q : Type 0) → (P → Q) → OnErr answer P → OnErr answer Q
then_err (Ok a) P Q f p = tt
then_err (Err e) P Q f p = f p

-- a line whose request was read by the session's configuration
module _ (session : SessionView) (e : Environment) (s : State) (objects : Told) (is : IsState session objects e s)
    (line : List ℕ) (request : Request) (read : request ≡ request_of session.config line) (some : line ≢ [])
    (old new : Told) where
  read_by : request ≡ request_of e.config line
  read_by = read ∙ ap (λ st. request_of st line) is.config

  pub step_answered : (text : List ℕ) → RequestAnswered e s request text old new → Answered e s line text old new
  step_answered text p = let P : Request → Type 0 = λ request. RequestAnswered e s request text old new in
      line_answered e s line text old new some (subst P read_by p)

  pub step_unanswered : RequestUnanswered e s request old new → Unanswered e s line old new
  step_unanswered p = let P : Request → Type 0 = λ request. RequestUnanswered e s request old new in
      line_unanswered e s line old new some (subst P read_by p)

not_zero : (n : ℕ) → false ≡ (suc n == 0)
not_zero n = grind (arith, nat_tests)

pub is_nothing : (line : List ℕ) → true ≡ (length line == 0) → line ≡ []
is_nothing [] is = refl
is_nothing (b ∷ bytes) is = absurd (true≢false (is ∙ sym (not_zero (length bytes))))

pub is_something : (line : List ℕ) → false ≡ (length line == 0) → line ≢ []
is_something line is empty = true≢false (sym (is ∙ ap (λ l. length l == 0) empty))
