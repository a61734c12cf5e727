-- What a call of a reader gives, where its source tells the bytes.
use Rattle.std.proofs.Common.{◌≡◌, ℕ, ◌<◌, ◌≤◌, ◌⊎◌, List, [], ◌∷◌, ◌++◌, length, Vec, Some, None, IfSome, inl, inr}
use Rattle.std.proofs.Common.{true, refl, sym, ap, ◌∙◌, arith, append_assoc, append-nil}
use Rattle.std.specs.declared.alloc.Global.{Global}
use Rattle.std.specs.declared.option.Option.{Option}
use Rattle.std.specs.Io.KnownBytes.{IsAtEnd}
use Rattle.dbe_io.specs.Lines.{lines_of, first_piece, HasNone, IsTooLong, IsTooMuch}
use Rattle.dbe_io.specs.Reading.{LineReaderState, Given, IsEndedLine, IsLastLine, most_of}
use Rattle.dbe_io.proofs.Pieces.{first_piece-line, first_piece-none}
use Rattle.dbe_io.proofs.LineLaws.{lines_of-ended, lines_of-last}

-- bytes are a line, its newline and the rest, or a last line, or none
abbrev pub IsNextLine : List ℕ → List ℕ → Option (Vec ℕ Global) → Type 0
IsNextLine bytes rest None = (bytes ≡ []) × (rest ≡ [])
IsNextLine bytes rest (Some v) = HasNone 10 v.items × ((bytes ≡ v.items ++ 10 ∷ rest) ⊎
    ((bytes ≡ v.items) × (0 < length v.items) × (rest ≡ [])))

pub IsNextLine-lines : (bytes rest : List ℕ) (v : Vec ℕ Global) → IsNextLine bytes rest (Some v) →
    lines_of bytes ≡ v.items ∷ lines_of rest
IsNextLine-lines bytes rest v (none, inl e) = ap lines_of e ∙ lines_of-ended v.items rest none
IsNextLine-lines bytes rest v (none, inr (e, some, nothing)) = ap lines_of e ∙ lines_of-last v.items none some ∙
    ap (λ l. v.items ∷ lines_of l) (sym nothing)

pub IsNextLine-none : (bytes rest : List ℕ) → IsNextLine bytes rest None → lines_of bytes ≡ []
IsNextLine-none bytes rest (e, nothing) = ap lines_of e

-- told bytes: what is given of them, and what stays
pub record Told (old new : LineReaderState) (bytes : List ℕ) (left' : Option (List ℕ)) (line : Option (Vec ℕ Global))
    : Type 0 where
  pub rest : List ℕ
  pub left_is : left' ≡ Some rest
  pub next : IsNextLine (old.held ++ bytes) (new.held ++ rest) line
  pub not_too_long : ¬ IsTooLong old.limit (most_of old) (old.held ++ bytes)
  pub not_too_much : ¬ IsTooMuch old.limit (most_of old) (old.held ++ bytes)

-- a line that a newline ends is within the limits
within_ended : (limit most : ℕ) (line rest : List ℕ) → HasNone 10 line → length line ≤ limit → length line < most
    → (¬ IsTooLong limit most (line ++ 10 ∷ rest)) × (¬ IsTooMuch limit most (line ++ 10 ∷ rest))
within_ended limit most line rest none short within =
    let piece : length (first_piece (line ++ 10 ∷ rest)) ≡ length line = ap length (first_piece-line line rest none) in (
      λ long. absurd (let past : limit < length (first_piece (line ++ 10 ∷ rest)) = long.0 in omega arith),
      λ much. absurd (let past : most ≤ length (first_piece (line ++ 10 ∷ rest)) = much.no_end in omega arith),
    )

within_last : (limit most : ℕ) (line : List ℕ) → HasNone 10 line → length line ≤ limit → length line ≤ most →
    (¬ IsTooLong limit most line) × (¬ IsTooMuch limit most line)
within_last limit most line none short within =
    let piece : length (first_piece line) ≡ length line = ap length (first_piece-none line none) in (
      λ long. absurd (let past : limit < length (first_piece line) = long.0 in omega arith),
      λ much. absurd (let past : most < length line = much.more in omega arith),
    )

told_line : (old new : LineReaderState) (bytes rest : List ℕ) (v : Vec ℕ Global) →
    (p : Given old new (Some bytes) (Some rest) (Some v)) → (old.ended ≡ true → bytes ≡ [])
    → HasNone 10 v.items → IsEndedLine old.limit (most_of old) (old.held ++ p.moved) v.items new ⊎
    IsLastLine old.limit (most_of old) (old.held ++ p.moved) v.items new
    → Told old new bytes (Some rest) (Some v)
told_line old new bytes rest v p was none (inl line) =
    let all : old.held ++ bytes ≡ v.items ++ 10 ∷ (new.held ++ rest) =
    ap (λ l. old.held ++ l) p.moves.gone ∙ sym (append_assoc old.held p.moved rest) ∙ ap (λ l. l ++ rest) line.whole ∙
    append_assoc v.items (10 ∷ new.held) rest in
    let within = within_ended old.limit (most_of old) v.items (new.held ++ rest) none line.short line.within in
    record {
      rest = rest;
      left_is = refl;
      next = (none, inl all);
      not_too_long = rw all within.0;
      not_too_much = rw all within.1;
    }
told_line old new bytes rest v p was none (inr line) =
    let nothing : rest ≡ [] = p.at_end line.ended was in
    let all : old.held ++ bytes ≡ v.items =
    ap (λ l. old.held ++ l) p.moves.gone ∙ sym (append_assoc old.held p.moved rest) ∙ ap (λ l. l ++ rest) line.whole ∙
    ap (λ l. v.items ++ l) nothing ∙ append-nil v.items in
    let within = within_last old.limit (most_of old) v.items none line.short line.within in
    record {
      rest = rest;
      left_is = refl;
      next = (none, inr (all, line.some, ap (λ l. l ++ rest) line.none_left ∙ nothing));
      not_too_long = rw all within.0;
      not_too_much = rw all within.1;
    }

pub Given-told : (old new : LineReaderState) (bytes : List ℕ) (left' : Option (List ℕ)) (line : Option (Vec ℕ Global))
    → Given old new (Some bytes) left' line → (old.ended ≡ true → bytes ≡ []) → Told old new bytes left' line
Given-told old new bytes None line p was = absurd p.moves.gone
Given-told old new bytes (Some rest) None p was =
    let nothing : rest ≡ [] = p.at_end p.given.2 was in
    let all : old.held ++ bytes ≡ [] = ap (λ l. old.held ++ l) p.moves.gone ∙
    sym (append_assoc old.held p.moved rest) ∙ ap (λ l. l ++ rest) p.given.0 ∙ nothing in
    let within = within_last old.limit (most_of old) [] (λ k lt e. absurd (omega arith)) (omega arith) (omega arith) in
    record {
      rest = rest;
      left_is = refl;
      next = (all, ap (λ l. l ++ rest) p.given.1 ∙ nothing);
      not_too_long = rw all within.0;
      not_too_much = rw all within.1;
    }
Given-told old new bytes (Some rest) (Some v) p was = told_line old new bytes rest v p was p.given.0 p.given.1

pub Given-within : (old new : LineReaderState) (left left' : Option (List ℕ)) (line : Option (Vec ℕ Global)) →
    Given old new left left' line → (old.ended ≡ true → IsAtEnd left)
    → IfSome left (λ bytes. (¬ IsTooLong old.limit (most_of old) (old.held ++ bytes)) ×
    (¬ IsTooMuch old.limit (most_of old) (old.held ++ bytes)))
Given-within old new None left' line p was = tt
Given-within old new (Some bytes) left' line p was = let told = Given-told old new bytes left' line p was in
    (told.not_too_long, told.not_too_much)
