-- The lines of bytes that end somewhere known.
use Rattle.std.proofs.Common.{◌≡◌, ◌==◌, ℕ, ◌<◌, ◌≤◌, Bool, List, [], ◌∷◌, ◌++◌, length, if◌then◌else◌, refl, sym, ap}
use Rattle.std.proofs.Common.{◌∙◌, arith, true, false, append_assoc, append-nil, length-append}
use Rattle.dbe_io.specs.Lines.{onto, onto_first, lines_of, ended_lines, first_piece, last_byte, HasNone, IsWhole}
use Rattle.dbe_io.specs.Lines.{IsTooLong, IsTooMuch}
use Rattle.dbe_io.proofs.Pieces.{HasNone-head, HasNone-tail, first_piece-grows}

-- a line that a newline ends, and others
pub lines_of-ended : (line rest : List ℕ) → HasNone 10 line → lines_of (line ++ 10 ∷ rest) ≡ line ∷ lines_of rest
lines_of-ended [] rest none = refl
lines_of-ended (x ∷ xs) rest none = rw (HasNone-head x xs none, lines_of-ended xs rest (HasNone-tail x xs none)) refl

pub ended_lines-ended : (line rest : List ℕ) → HasNone 10 line → ended_lines (line ++ 10 ∷ rest) ≡ line ∷ ended_lines
    rest
ended_lines-ended [] rest none = refl
ended_lines-ended (x ∷ xs) rest none = rw (HasNone-head x xs none, ended_lines-ended xs rest (HasNone-tail x xs none))
    refl

-- a last piece without a newline
last_piece : (x : ℕ) (xs : List ℕ) → HasNone 10 (x ∷ xs) → lines_of (x ∷ xs) ≡ (x ∷ xs) ∷ []
last_piece x [] none = rw (HasNone-head x [] none) refl
last_piece x (y ∷ ys) none = let rest = last_piece y ys (HasNone-tail x (y ∷ ys) none) in
    rw (HasNone-head x (y ∷ ys) none) (ap (onto x) rest)

pub lines_of-last : (line : List ℕ) → HasNone 10 line → 0 < length line → lines_of line ≡ line ∷ []
lines_of-last [] none some = absurd (omega arith)
lines_of-last (x ∷ xs) none some = last_piece x xs none

pub ended_lines-none : (bytes : List ℕ) → HasNone 10 bytes → ended_lines bytes ≡ []
ended_lines-none [] none = refl
ended_lines-none (x ∷ xs) none = rw (HasNone-head x xs none, ended_lines-none xs (HasNone-tail x xs none)) refl

-- a front that is empty or ends with a newline
some_if : (b : ℕ) (t : Bool) (lines : List (List ℕ)) → 0 < length lines →
    0 < length (if t then [] ∷ lines else onto_first b lines)
some_if b true lines some = omega arith
some_if b false [] some = absurd (omega arith)
some_if b false (line ∷ lines) some = omega arith

ended_lines-some : (b : ℕ) (bytes : List ℕ) → last_byte b bytes ≡ 10 → 0 < length (ended_lines (b ∷ bytes))
ended_lines-some b [] is = let t : (b == 10) ≡ true = rw is refl in rw t (omega arith)
ended_lines-some b (c ∷ bytes) is = some_if b (b == 10) (ended_lines (c ∷ bytes)) (ended_lines-some c bytes is)

lines_if : (b : ℕ) (t : Bool) (all front rest : List (List ℕ)) → 0 < length front → all ≡ front ++ rest
    → (if t then [] ∷ all else onto b all) ≡ (if t then [] ∷ front else onto_first b front) ++ rest
lines_if b true all front rest some e = ap (λ l. [] ∷ l) e
lines_if b false all [] rest some e = absurd (omega arith)
lines_if b false all (line ∷ lines) rest some e = ap (onto b) e

lines_of-front_of : (b : ℕ) (bytes rest : List ℕ) → last_byte b bytes ≡ 10 →
    lines_of (b ∷ bytes ++ rest) ≡ ended_lines (b ∷ bytes) ++ lines_of rest
lines_of-front_of b [] rest is = let t : (b == 10) ≡ true = rw is refl in rw t refl
lines_of-front_of b (c ∷ bytes) rest is =
    lines_if b (b == 10) (lines_of (c ∷ bytes ++ rest)) (ended_lines (c ∷ bytes)) (lines_of rest)
    (ended_lines-some c bytes is) (lines_of-front_of c bytes rest is)

pub lines_of-front : (front rest : List ℕ) → IsWhole front → lines_of (front ++ rest) ≡ ended_lines front ++ lines_of
    rest
lines_of-front [] rest whole = refl
lines_of-front (b ∷ bytes) rest whole = lines_of-front_of b bytes rest whole

ended_if : (b : ℕ) (t : Bool) (all front rest : List (List ℕ)) → 0 < length front → all ≡ front ++ rest
    → (if t then [] ∷ all else onto_first b all) ≡ (if t then [] ∷ front else onto_first b front) ++ rest
ended_if b true all front rest some e = ap (λ l. [] ∷ l) e
ended_if b false all [] rest some e = absurd (omega arith)
ended_if b false all (line ∷ lines) rest some e = ap (onto_first b) e

ended_lines-front_of : (b : ℕ) (bytes rest : List ℕ) → last_byte b bytes ≡ 10 →
    ended_lines (b ∷ bytes ++ rest) ≡ ended_lines (b ∷ bytes) ++ ended_lines rest
ended_lines-front_of b [] rest is = let t : (b == 10) ≡ true = rw is refl in rw t refl
ended_lines-front_of b (c ∷ bytes) rest is =
    ended_if b (b == 10) (ended_lines (c ∷ bytes ++ rest)) (ended_lines (c ∷ bytes)) (ended_lines rest)
    (ended_lines-some c bytes is) (ended_lines-front_of c bytes rest is)

pub ended_lines-front : (front rest : List ℕ) → IsWhole front → ended_lines (front ++ rest) ≡ ended_lines front ++
    ended_lines rest
ended_lines-front [] rest whole = refl
ended_lines-front (b ∷ bytes) rest whole = ended_lines-front_of b bytes rest whole

-- the lines of a front are its ended lines
pub lines_of-whole : (front : List ℕ) → IsWhole front → lines_of front ≡ ended_lines front
lines_of-whole front whole = ap lines_of (sym (append-nil front)) ∙ lines_of-front front [] whole ∙
    append-nil (ended_lines front)

-- one line more
pub ended_lines-more : (front line : List ℕ) → IsWhole front → HasNone 10 line →
    ended_lines (front ++ line ++ 10 ∷ []) ≡ ended_lines front ++ line ∷ []
ended_lines-more front line whole none =
    ap ended_lines (append_assoc front line (10 ∷ [])) ∙ ended_lines-front front (line ++ 10 ∷ []) whole ∙
    ap (λ l. ended_lines front ++ l) (ended_lines-ended line [] none)

-- a piece without a newline ends no line
pub ended_lines-open : (front piece : List ℕ) → IsWhole front → HasNone 10 piece →
    ended_lines (front ++ piece) ≡ ended_lines front
ended_lines-open front piece whole none = ended_lines-front front piece whole ∙
    ap (λ l. ended_lines front ++ l) (ended_lines-none piece none) ∙ append-nil (ended_lines front)

last_byte-ended : (b : ℕ) (bytes : List ℕ) → last_byte b (bytes ++ 10 ∷ []) ≡ 10
last_byte-ended b [] = refl
last_byte-ended b (c ∷ bytes) = last_byte-ended c bytes

pub IsWhole-ended : (bytes : List ℕ) → IsWhole (bytes ++ 10 ∷ [])
IsWhole-ended [] = refl
IsWhole-ended (b ∷ bytes) = last_byte-ended b bytes

-- a fault over the bytes that are held is one over more
pub IsTooLong-more : (limit most : ℕ) (held more : List ℕ) → IsTooLong limit most held →
    IsTooLong limit most (held ++ more)
IsTooLong-more limit most held more (long, within) =
    let grows : length (first_piece held) ≤ length (first_piece (held ++ more)) = first_piece-grows held more in
    (omega arith, within)

pub IsTooMuch-more : (limit most : ℕ) (held more : List ℕ) → IsTooMuch limit most held →
    IsTooMuch limit most (held ++ more)
IsTooMuch-more limit most held more much =
    let grows : length (first_piece held) ≤ length (first_piece (held ++ more)) = first_piece-grows held more in
    let no_end : most ≤ length (first_piece held) = much.no_end in
    let past : most < length held = much.more in
    record {
      not_too_long = λ long. much.not_too_long (let within : limit < most = long.1 in (omega arith, within));
      no_end = omega arith;
      more = omega (arith, length-append held more);
    }
