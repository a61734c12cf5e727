-- How far a script was read: the lines that were given, and what is to come.
use Rattle.std.proofs.Common.{◌≡◌, ◌⊎◌, ℕ, ◌+◌, ◌<◌, ◌≤◌, Bool, true, false, List, [], ◌∷◌, ◌++◌, length, Vec, Some}
use Rattle.std.proofs.Common.{None, inl, inr, refl, sym, ap, ◌∙◌, subst, arith, append_assoc, append-nil}
use Rattle.std.proofs.Common.{length-append}
use Rattle.std.specs.declared.alloc.Global.{Global}
use Rattle.std.specs.declared.option.Option.{Option}
use Rattle.std.specs.List.{All}
use Rattle.std.specs.Io.KnownBytes.{Consumes, IsAtEnd}
use Rattle.std.proofs.lemmas.List.Elements.{All-nil, All-push}
use Rattle.dbe_io.specs.Lines.{lines_of, ended_lines, HasNone, IsWhole}
use Rattle.dbe_io.specs.Reading.{LineReaderState, Given, IsEndedLine, IsLastLine, Moved, most_of}
use Rattle.dbe_io.proofs.LineLaws.{lines_of-ended, lines_of-last, lines_of-front, ended_lines-more, IsWhole-ended}

-- The lines are those that newlines end in the prefix, or all of them where the reader has ended.
abbrev pub AreDone : List (List ℕ) → List ℕ → List ℕ → Bool → Type 0
AreDone lines prefix rest ended = ((lines ≡ ended_lines prefix) × IsWhole prefix) ⊎ ((ended ≡ true) × (rest ≡ []) ×
    (lines ≡ lines_of prefix))

pub record ReadSoFar (limit total : ℕ) (bytes : List ℕ) (reader : LineReaderState) (left : Option (List ℕ))
    (lines : List (List ℕ)) : Type 0 where
  pub prefix : List ℕ
  pub to_come : List ℕ
  pub is_left : left ≡ Some to_come
  pub whole : bytes ≡ prefix ++ (reader.held ++ to_come)
  pub lines_are : lines_of bytes ≡ lines ++ lines_of (reader.held ++ to_come)
  pub done : AreDone lines prefix (reader.held ++ to_come) reader.ended
  pub short : All (λ line. length line ≤ limit) lines
  pub within : length prefix ≤ total
  pub taken : reader.taken ≡ length prefix + length reader.held
  pub is_limit : reader.limit ≡ limit
  pub is_total : reader.total ≡ total

-- before the first line
pub ReadSoFar-start : (limit total : ℕ) (bytes : List ℕ) (reader : LineReaderState) (left : Option (List ℕ)) →
    reader ≡ record { limit = limit; total = total; held = []; taken = 0; ended = false; fault = None } →
    left ≡ Some bytes
    → ReadSoFar limit total bytes reader left []
ReadSoFar-start limit total bytes reader left is told =
    let held : reader.held ≡ [] = ap (λ (r : LineReaderState). r.held) is in
    let all : bytes ≡ reader.held ++ bytes = ap (λ h. h ++ bytes) (sym held) in
    let nothing : length reader.held ≡ 0 = ap length held in
    let taken : reader.taken ≡ 0 = ap (λ (r : LineReaderState). r.taken) is in
    record {
      prefix = [];
      to_come = bytes;
      is_left = told;
      whole = all;
      lines_are = ap lines_of all;
      done = inl (refl, tt);
      short = All-nil (λ line. length line ≤ limit);
      within = omega arith;
      taken = omega (arith, taken, nothing);
      is_limit = ap (λ (r : LineReaderState). r.limit) is;
      is_total = ap (λ (r : LineReaderState). r.total) is;
    }

-- One line more was given: it is the first of those that were to come.
pub record NextLine (limit total : ℕ) (bytes : List ℕ) (reader : LineReaderState) (left : Option (List ℕ))
    (lines : List (List ℕ)) (rest line : List ℕ) : Type 0 where
  pub so_far : ReadSoFar limit total bytes reader left (lines ++ line ∷ [])
  pub first : lines_of rest ≡ line ∷ lines_of (reader.held ++ so_far.to_come)

pub record Pulled (bytes moved : List ℕ) (left' : Option (List ℕ)) : Type 0 where
  pub rest : List ℕ
  pub is_left : left' ≡ Some rest
  pub whole : bytes ≡ moved ++ rest

pulled : (bytes moved : List ℕ) (left' : Option (List ℕ)) → Consumes (Some bytes) left' moved → Pulled bytes moved left'
pulled bytes moved None gone = absurd gone
pulled bytes moved (Some rest) gone = record { rest = rest; is_left = refl; whole = gone }

-- what was moved from told bytes
pub pulled_from : (left left' : Option (List ℕ)) (bytes moved : List ℕ) → left ≡ Some bytes →
    Consumes left left' moved → Pulled bytes moved left'
pulled_from left left' bytes moved is gone = let P : Option (List ℕ) → Type 0 = λ l. Consumes l left' moved in
    pulled bytes moved left' (subst P is gone)

no_empty : (v r : List ℕ) → v ++ 10 ∷ r ≡ [] → ⊥
no_empty [] r e = (cc)
no_empty (x ∷ v) r e = (cc)

ended_done : (lines : List (List ℕ)) (prefix v rest shape : List ℕ) (ended : Bool) → AreDone lines prefix rest ended →
    rest ≡ v ++ 10 ∷ shape → HasNone 10 v
    → (lines ++ v ∷ [] ≡ ended_lines ((prefix ++ v) ++ 10 ∷ [])) × IsWhole ((prefix ++ v) ++ 10 ∷ [])
ended_done lines prefix v rest shape ended (inl (d, w)) is none = (
  ap (λ ls. ls ++ v ∷ []) d ∙
      sym (ended_lines-more prefix v w none),
  IsWhole-ended (prefix ++ v),
)
ended_done lines prefix v rest shape ended (inr (is_ended, empty, d)) is none =
    absurd (no_empty v shape (sym is ∙ empty))

more_ended : (limit total : ℕ) (bytes : List ℕ) (old new : LineReaderState) (left left' : Option (List ℕ))
    (lines : List (List ℕ)) (v moved : List ℕ)
    → (p : ReadSoFar limit total bytes old left lines) → Moved old new left left' moved → HasNone 10 v →
    IsEndedLine old.limit (most_of old) (old.held ++ moved) v new
    → NextLine limit total bytes new left' lines (old.held ++ p.to_come) v
more_ended limit total bytes old new left left' lines v moved p moves none e =
    let pull = pulled_from left left' p.to_come moved p.is_left moves.gone in
    let shape : old.held ++ p.to_come ≡ v ++ 10 ∷ (new.held ++ pull.rest) =
    ap (λ l. old.held ++ l) pull.whole ∙ sym (append_assoc old.held moved pull.rest) ∙
    ap (λ l. l ++ pull.rest) e.whole ∙ append_assoc v (10 ∷ new.held) pull.rest in
    let first : lines_of (old.held ++ p.to_come) ≡ v ∷ lines_of (new.held ++ pull.rest) = ap lines_of shape ∙
    lines_of-ended v (new.held ++ pull.rest) none in
    let sizes : length old.held + length moved ≡ length v + (length new.held + 1) =
    sym (length-append old.held moved) ∙ ap length e.whole ∙ length-append v (10 ∷ new.held) ∙ omega arith in
    let grown : length ((p.prefix ++ v) ++ 10 ∷ []) ≡ length p.prefix + length v + 1 =
    length-append (p.prefix ++ v) (10 ∷ []) ∙ ap (λ n. n + 1) (length-append p.prefix v) in
    record {
      so_far = record {
        prefix = (p.prefix ++ v) ++ 10 ∷ [];
        to_come = pull.rest;
        is_left = pull.is_left;
        whole = p.whole ∙ ap (λ l. p.prefix ++ l) shape ∙ sym (append_assoc p.prefix v (10 ∷ (new.held ++ pull.rest)))
            ∙ sym (append_assoc (p.prefix ++ v) (10 ∷ []) (new.held ++ pull.rest));
        lines_are = p.lines_are ∙ ap (λ ls. lines ++ ls) first ∙
            sym (append_assoc lines (v ∷ []) (lines_of (new.held ++ pull.rest)));
        done = inl (ended_done lines p.prefix v (old.held ++ p.to_come) (new.held ++ pull.rest) old.ended p.done shape
            none);
        short = All-push (λ line. length line ≤ limit) lines v p.short (omega (arith, e.short, p.is_limit));
        within = omega (arith, grown, e.within, p.taken, p.is_total, p.within);
        taken = omega (arith, grown, sizes, moves.taken, p.taken);
        is_limit = moves.limit ∙ p.is_limit;
        is_total = moves.total ∙ p.is_total;
      };
      first = first;
    }

empty_left : (left' : Option (List ℕ)) (rest : List ℕ) → left' ≡ Some rest → IsAtEnd left' → rest ≡ []
empty_left left' rest is end = let P : Option (List ℕ) → Type 0 = IsAtEnd in subst P is end

not_empty : (v : List ℕ) → 0 < length v → v ≡ [] → ⊥
not_empty v some e = absurd (let none : length v ≡ 0 = ap length e in omega arith)

last_done : (lines : List (List ℕ)) (prefix v rest : List ℕ) (ended : Bool) → AreDone lines prefix rest ended →
    rest ≡ v → HasNone 10 v → 0 < length v → lines ++ v ∷ [] ≡ lines_of (prefix ++ v)
last_done lines prefix v rest ended (inl (d, w)) is none some = ap (λ ls. ls ++ v ∷ []) d ∙
    ap (λ ls. ended_lines prefix ++ ls) (sym (lines_of-last v none some)) ∙ sym (lines_of-front prefix v w)
last_done lines prefix v rest ended (inr (is_ended, empty, d)) is none some = absurd (not_empty v some (sym is ∙ empty))

more_last : (limit total : ℕ) (bytes : List ℕ) (old new : LineReaderState) (left left' : Option (List ℕ))
    (lines : List (List ℕ)) (v moved : List ℕ)
    → (p : ReadSoFar limit total bytes old left lines) → Moved old new left left' moved → HasNone 10 v →
    IsLastLine old.limit (most_of old) (old.held ++ moved) v new → IsAtEnd left'
    → NextLine limit total bytes new left' lines (old.held ++ p.to_come) v
more_last limit total bytes old new left left' lines v moved p moves none e end =
    let pull = pulled_from left left' p.to_come moved p.is_left moves.gone in
    let nothing : pull.rest ≡ [] = empty_left left' pull.rest pull.is_left end in
    let shape : old.held ++ p.to_come ≡ v =
    ap (λ l. old.held ++ l) pull.whole ∙ sym (append_assoc old.held moved pull.rest) ∙
    ap (λ l. l ++ pull.rest) e.whole ∙ ap (λ l. v ++ l) nothing ∙ append-nil v in
    let over : new.held ++ pull.rest ≡ [] = ap (λ l. l ++ pull.rest) e.none_left ∙ nothing in
    let first : lines_of (old.held ++ p.to_come) ≡ v ∷ lines_of (new.held ++ pull.rest) = ap lines_of shape ∙
    lines_of-last v none e.some ∙ ap (λ l. v ∷ lines_of l) (sym over) in
    let sizes : length old.held + length moved ≡ length v = sym (length-append old.held moved) ∙ ap length e.whole in
    let grown : length (p.prefix ++ v) ≡ length p.prefix + length v = length-append p.prefix v in
    let held : length new.held ≡ 0 = ap length e.none_left in
    record {
      so_far = record {
        prefix = p.prefix ++ v;
        to_come = pull.rest;
        is_left = pull.is_left;
        whole = p.whole ∙ ap (λ l. p.prefix ++ l) shape ∙ sym (append-nil (p.prefix ++ v)) ∙
            ap (λ l. (p.prefix ++ v) ++ l) (sym over);
        lines_are = p.lines_are ∙ ap (λ ls. lines ++ ls) first ∙
            sym (append_assoc lines (v ∷ []) (lines_of (new.held ++ pull.rest)));
        done = inr (
          e.ended,
          over,
          last_done lines p.prefix v (old.held ++ p.to_come) old.ended p.done shape none
              e.some,
        );
        short = All-push (λ line. length line ≤ limit) lines v p.short (omega (arith, e.short, p.is_limit));
        within = omega (arith, grown, e.within, p.taken, p.is_total, p.within);
        taken = omega (arith, grown, sizes, held, moves.taken, p.taken);
        is_limit = moves.limit ∙ p.is_limit;
        is_total = moves.total ∙ p.is_total;
      };
      first = first;
    }

more_by : (limit total : ℕ) (bytes : List ℕ) (old new : LineReaderState) (left left' : Option (List ℕ))
    (lines : List (List ℕ)) (v : List ℕ) (moved : List ℕ)
    → (p : ReadSoFar limit total bytes old left lines) → Moved old new left left' moved →
    (new.ended ≡ true → IsAtEnd left') → HasNone 10 v
    → IsEndedLine old.limit (most_of old) (old.held ++ moved) v new ⊎
    IsLastLine old.limit (most_of old) (old.held ++ moved) v new
    → NextLine limit total bytes new left' lines (old.held ++ p.to_come) v
more_by limit total bytes old new left left' lines v moved p moves end none (inl e) =
    more_ended limit total bytes old new left left' lines v moved p moves none e
more_by limit total bytes old new left left' lines v moved p moves end none (inr e) =
    more_last limit total bytes old new left left' lines v moved p moves none e (end e.ended)

pub ReadSoFar-more : (limit total : ℕ) (bytes : List ℕ) (old new : LineReaderState) (left left' : Option (List ℕ))
    (lines : List (List ℕ)) (v : Vec ℕ Global)
    → (p : ReadSoFar limit total bytes old left lines) → Given old new left left' (Some v) →
    (old.ended ≡ true → IsAtEnd left)
    → NextLine limit total bytes new left' lines (old.held ++ p.to_come) v.items
ReadSoFar-more limit total bytes old new left left' lines v p g was =
    more_by limit total bytes old new left left' lines v.items g.moved p g.moves (λ e. g.at_end e was) g.given.0
    g.given.1

-- where none is given, nothing is to come
pub nothing_to_come : (limit total : ℕ) (bytes : List ℕ) (old new : LineReaderState) (left left' : Option (List ℕ))
    (lines : List (List ℕ))
    → (p : ReadSoFar limit total bytes old left lines) → Given old new left left' None →
    (old.ended ≡ true → IsAtEnd left) → old.held ++ p.to_come ≡ []
nothing_to_come limit total bytes old new left left' lines p g was =
    let pull = pulled_from left left' p.to_come g.moved p.is_left g.moves.gone in
    let nothing : pull.rest ≡ [] = empty_left left' pull.rest pull.is_left (g.at_end g.given.2 was) in
    ap (λ l. old.held ++ l) pull.whole ∙ sym (append_assoc old.held g.moved pull.rest) ∙
    ap (λ l. l ++ pull.rest) g.given.0 ∙ nothing

pub ReadSoFar-none : (limit total : ℕ) (bytes : List ℕ) (old new : LineReaderState) (left left' : Option (List ℕ))
    (lines : List (List ℕ))
    → (p : ReadSoFar limit total bytes old left lines) → Given old new left left' None →
    (old.ended ≡ true → IsAtEnd left) → lines ≡ lines_of bytes
ReadSoFar-none limit total bytes old new left left' lines p g was =
    sym (p.lines_are ∙ ap (λ l. lines ++ lines_of l) (nothing_to_come limit total bytes old new left left' lines p g
    was) ∙ append-nil lines)

pub ReadSoFar-within : (limit total : ℕ) (bytes : List ℕ) (old new : LineReaderState) (left left' : Option (List ℕ))
    (lines : List (List ℕ))
    → (p : ReadSoFar limit total bytes old left lines) → Given old new left left' None →
    (old.ended ≡ true → IsAtEnd left) → All (λ line. length line ≤ limit) (lines_of bytes) × (length bytes ≤ total)
ReadSoFar-within limit total bytes old new left left' lines p g was =
    let nothing = nothing_to_come limit total bytes old new left left' lines p g was in
    let size : length bytes ≡ length p.prefix = ap length (p.whole ∙ ap (λ l. p.prefix ++ l) nothing ∙
    append-nil p.prefix) in
    let P : List (List ℕ) → Type 0 = λ ls. All (λ line. length line ≤ limit) ls in
    (subst P (ReadSoFar-none limit total bytes old new left left' lines p g was) p.short, omega (arith, size, p.within))
