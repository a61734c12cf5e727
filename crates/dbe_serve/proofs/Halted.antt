-- Where the reader of a script gave up.
use Rattle.std.proofs.Common.{◌≡◌, ℕ, ◌+◌, ◌-◌, ◌<◌, ◌≤◌, ◌==◌, true, false, Bool, List, [], ◌∷◌, ◌++◌, length, Some}
use Rattle.std.proofs.Common.{None, inl, inr, refl, sym, ap, ◌∙◌, subst, arith, append_assoc, length-append}
use Rattle.std.proofs.Common.{if◌then◌else◌}
use Rattle.std.proofs.lemmas.Bool.{false≢true}
use Rattle.std.specs.declared.option.Option.{Option}
use Rattle.dbe_io.specs.declared.lines.LineFault.{LineFault}
use Rattle.dbe_io.specs.declared.lines.LineFault.TheVariants as f
use Rattle.dbe_io.specs.Lines.{onto, lines_of, ended_lines, first_piece, IsTooLong, IsTooMuch, IsWhole}
use Rattle.dbe_io.specs.Reading.{LineReaderState, GaveUp, Stops, most_of}
use Rattle.dbe_io.proofs.LineLaws.{ended_lines-open, IsTooLong-more, IsTooMuch-more}
use Rattle.dbe_serve.specs.Stops.{HasLongLine}
use Rattle.dbe_serve.proofs.ReadSoFar.{AreDone, ReadSoFar, pulled_from}

-- a reader that had answered no fault gives up for the first time
pub gave_up : (old new : LineReaderState) (left left' : Option (List ℕ)) (fault : LineFault) → old.fault ≡ None →
    Stops old new left left' fault → GaveUp old new left left' fault
gave_up old new left left' fault none (inl stays) = let both : Some fault ≡ None = sym stays.fault_then ∙ none in (cc)
gave_up old new left left' fault none (inr g) = g

-- before the end the lines are those that newlines end
ended_or : (lines : List (List ℕ)) (prefix rest : List ℕ) (ended : Bool) → AreDone lines prefix rest ended →
    ended ≡ false → (lines ≡ ended_lines prefix) × IsWhole prefix
ended_or lines prefix rest ended (inl done) not_ended = done
ended_or lines prefix rest ended (inr (is_ended, empty, d)) not_ended = absurd (false≢true (sym not_ended ∙ is_ended))

-- what the reader holds and what is left are what was to come
pub record Halted (limit total : ℕ) (bytes : List ℕ) (old new : LineReaderState) (left' : Option (List ℕ))
    (lines : List (List ℕ)) (p_prefix p_rest : List ℕ) : Type 0 where
  pub left : List ℕ
  pub is_left : left' ≡ Some left
  pub rest_is : p_rest ≡ new.held ++ left
  pub most_is : most_of old ≡ total - length p_prefix

pub halted : (limit total : ℕ) (bytes : List ℕ) (old new : LineReaderState) (left left' : Option (List ℕ))
    (lines : List (List ℕ)) (fault : LineFault)
    → (p : ReadSoFar limit total bytes old left lines) → GaveUp old new left left' fault →
    Halted limit total bytes old new left' lines p.prefix (old.held ++ p.to_come)
halted limit total bytes old new left left' lines fault p g =
    let pull = pulled_from left left' p.to_come g.moved p.is_left g.moves.gone in record {
      left = pull.rest;
      is_left = pull.is_left;
      rest_is = ap (λ l. old.held ++ l) pull.whole ∙ sym (append_assoc old.held g.moved pull.rest) ∙
          ap (λ l. l ++ pull.rest) (sym g.held);
      most_is = omega (arith, p.taken, p.is_total);
    }

-- the line that is to come is too long
pub too_long : (limit total : ℕ) (bytes : List ℕ) (old new : LineReaderState) (left left' : Option (List ℕ))
    (lines : List (List ℕ))
    → (p : ReadSoFar limit total bytes old left lines) → GaveUp old new left left' f.LineTooLong →
    IsTooLong limit (total - length p.prefix) (old.held ++ p.to_come)
too_long limit total bytes old new left left' lines p g =
    let h = halted limit total bytes old new left left' lines f.LineTooLong p g in
    let long = IsTooLong-more old.limit (most_of old) new.held h.left g.cause in
    let P : ℕ → Type 0 = λ n. IsTooLong n (total - length p.prefix) (old.held ++ p.to_come) in
    let Q : ℕ → Type 0 = λ n. IsTooLong old.limit n (old.held ++ p.to_come) in
    let R : List ℕ → Type 0 = λ l. IsTooLong old.limit (most_of old) l in
    subst P p.is_limit (subst Q h.most_is (subst R (sym h.rest_is) long))

-- too much is to come
pub too_much : (limit total : ℕ) (bytes : List ℕ) (old new : LineReaderState) (left left' : Option (List ℕ))
    (lines : List (List ℕ))
    → (p : ReadSoFar limit total bytes old left lines) → GaveUp old new left left' f.TooMuch →
    IsTooMuch limit (total - length p.prefix) (old.held ++ p.to_come)
too_much limit total bytes old new left left' lines p g =
    let h = halted limit total bytes old new left left' lines f.TooMuch p g in
    let much = IsTooMuch-more old.limit (most_of old) new.held h.left g.cause in
    let P : ℕ → Type 0 = λ n. IsTooMuch n (total - length p.prefix) (old.held ++ p.to_come) in
    let Q : ℕ → Type 0 = λ n. IsTooMuch old.limit n (old.held ++ p.to_come) in
    let R : List ℕ → Type 0 = λ l. IsTooMuch old.limit (most_of old) l in
    subst P p.is_limit (subst Q h.most_is (subst R (sym h.rest_is) much))

pub ended_before_long : (limit total : ℕ) (bytes : List ℕ) (old new : LineReaderState) (left left' : Option (List ℕ))
    (lines : List (List ℕ))
    → (p : ReadSoFar limit total bytes old left lines) → GaveUp old new left left' f.LineTooLong →
    lines ≡ ended_lines p.prefix
ended_before_long limit total bytes old new left left' lines p g =
    (ended_or lines p.prefix (old.held ++ p.to_come) old.ended p.done g.not_ended).0

pub ended_before_much : (limit total : ℕ) (bytes : List ℕ) (old new : LineReaderState) (left left' : Option (List ℕ))
    (lines : List (List ℕ))
    → (p : ReadSoFar limit total bytes old left lines) → GaveUp old new left left' f.TooMuch →
    lines ≡ ended_lines p.prefix
ended_before_much limit total bytes old new left left' lines p g =
    (ended_or lines p.prefix (old.held ++ p.to_come) old.ended p.done g.not_ended).0

-- the lines are those that end within the bytes taken
pub read_stops : (limit total : ℕ) (bytes : List ℕ) (old new : LineReaderState) (left left' : Option (List ℕ))
    (lines : List (List ℕ))
    → (p : ReadSoFar limit total bytes old left lines) → (g : GaveUp old new left left' f.Read)
    → let h = halted limit total bytes old new left left' lines f.Read p g in
    (taken : List ℕ) × (p.prefix ++ (old.held ++ p.to_come) ≡ taken ++ h.left) × (lines ≡ ended_lines taken)
read_stops limit total bytes old new left left' lines p g =
    let h = halted limit total bytes old new left left' lines f.Read p g in (
      p.prefix ++ new.held,
      ap (λ l. p.prefix ++ l) h.rest_is ∙ sym (append_assoc p.prefix new.held h.left),
      (let done = ended_or lines p.prefix (old.held ++ p.to_come) old.ended p.done g.not_ended in done.0 ∙
          sym (ended_lines-open p.prefix new.held done.1 g.cause.0)),
    )

first_by : (b : ℕ) (piece : List ℕ) (rest : List (List ℕ)) (others : List (List ℕ)) (t : Bool) → rest ≡ piece ∷ others
    → (more : List (List ℕ)) × ((if t then [] ∷ rest else onto b rest) ≡ (if t then [] else b ∷ piece) ∷ more)
first_by b piece rest others true is = (rest, refl)
first_by b piece rest others false is = (others, ap (onto b) is)

last_by : (b : ℕ) (t : Bool) → (more : List (List ℕ)) ×
    ((if t then [] ∷ [] else onto b []) ≡ (if t then [] else b ∷ []) ∷ more)
last_by b true = ([], refl)
last_by b false = ([], refl)

first_line : (b : ℕ) (bytes : List ℕ) → (others : List (List ℕ)) ×
    (lines_of (b ∷ bytes) ≡ first_piece (b ∷ bytes) ∷ others)
first_line b [] = last_by b (b == 10)
first_line b (c ∷ bytes) = let rest = first_line c bytes in
    first_by b (first_piece (c ∷ bytes)) (lines_of (c ∷ bytes)) rest.0 (b == 10) rest.1

long_line_at : (limit : ℕ) (rest : List ℕ) → limit < length (first_piece rest) → (others : List (List ℕ)) ×
    (lines_of rest ≡ first_piece rest ∷ others)
long_line_at limit [] long = absurd (omega arith)
long_line_at limit (b ∷ bytes) long = first_line b bytes

-- a script of which a line is too long has a long line
pub has_long_line : (bytes prefix rest : List ℕ) (lines : List (List ℕ)) (most : ℕ) →
    lines_of bytes ≡ lines ++ lines_of rest → IsTooLong 1048576 most rest → HasLongLine bytes
has_long_line bytes prefix rest lines most are long =
    let at = long_line_at 1048576 rest long.0 in
    record {
      before = lines;
      line = first_piece rest;
      after = at.0;
      lines = are ∙ ap (λ ls. lines ++ ls) at.1;
      long =
          long.0;
    }

-- a script of which too much is to come is too long
pub is_long_script : (total : ℕ) (bytes prefix rest : List ℕ) (limit : ℕ) → bytes ≡ prefix ++ rest →
    length prefix ≤ total → IsTooMuch limit (total - length prefix) rest → total < length bytes
is_long_script total bytes prefix rest limit whole within much =
    let size : length bytes ≡ length prefix + length rest = ap length whole ∙ length-append prefix rest in
    let past : total - length prefix < length rest = much.more in
    omega arith
