-- What contracts see of a reader of lines, and what one call of it does (this project's own).
use Rattle.std.specs.Prelude.{ℕ, ◌≡◌, ◌≢◌, ◌+◌, ◌-◌, ◌<◌, ◌≤◌, ◌⊎◌, Bool, true, false, List, [], ◌∷◌, ◌++◌, length}
use Rattle.std.specs.Prelude.{◌&&◌, is_none, Result, Vec, Some, None}
use Rattle.std.specs.declared.alloc.Global.{Global}
use Rattle.std.specs.declared.option.Option.{Option}
use Rattle.std.specs.Io.KnownBytes.{Consumes, Keeps, IsAtEnd}
use Rattle.dbe_io.specs.declared.lines.LineFault.{LineFault}
use Rattle.dbe_io.specs.declared.lines.LineFault.TheVariants.{Memory, Read, LineTooLong, TooMuch}
use Rattle.dbe_io.specs.Faults.{is_read}
use Rattle.dbe_io.specs.Lines.{HasNone, IsTooLong, IsTooMuch}

-- a reader of lines
pub record LineReaderState : Type 0 where
  pub limit : ℕ  -- the most bytes of a line
  pub total : ℕ  -- the most bytes of the source
  pub held : List ℕ  -- the bytes taken and not yet given
  pub taken : ℕ  -- how many bytes were taken
  pub ended : Bool  -- whether all was given, to the source's end
  pub fault : Option LineFault  -- the fault that was answered

-- What is always so of a reader. It takes at most one byte past its total, and holds at most one past its limit.
pub record IsLineReaderState (r : LineReaderState) : Type 0 where
  pub given : r.taken ≤ r.total + length r.held
  pub taken : r.taken ≤ r.total + 1
  pub held : length r.held ≤ r.limit + 1
  pub ended : r.ended ≡ true → (r.held ≡ []) × (r.fault ≡ None)

-- the reader has ended, has answered a fault, or holds a whole line, so the next call needs no bytes of the source
abbrev pub NeedsNoBytes : LineReaderState → Type 0
NeedsNoBytes r = (r.ended ≡ true) ⊎ ((r.fault ≢ None) ⊎ (¬ HasNone 10 r.held))

-- whether a call answers that the source failed, and none has answered a fault before
abbrev pub fails_to_read : LineReaderState → Result (Option (Vec ℕ Global)) LineFault → Bool
fails_to_read old result = is_none old.fault && is_read result

-- how many bytes, from the first that is held, lie within the total
abbrev pub most_of : LineReaderState → ℕ
most_of r = (r.total + length r.held) - r.taken

-- how many bytes the reader may still give
abbrev pub budget : LineReaderState → ℕ
budget r = (r.total + 1 + length r.held) - r.taken

-- bytes moved from the source to the reader
pub record Moved (old new : LineReaderState) (left left' : Option (List ℕ)) (bytes : List ℕ) : Type 0 where
  pub gone : Consumes left left' bytes
  pub taken : new.taken ≡ old.taken + length bytes
  pub limit : new.limit ≡ old.limit
  pub total : new.total ≡ old.total

-- bytes are a line, its newline and what the reader holds from then on
pub record IsEndedLine (limit most : ℕ) (bytes line : List ℕ) (new : LineReaderState) : Type 0 where
  pub whole : bytes ≡ line ++ 10 ∷ new.held
  pub short : length line ≤ limit
  pub within : length line < most

-- bytes are a last line, which no newline ends
pub record IsLastLine (limit most : ℕ) (bytes line : List ℕ) (new : LineReaderState) : Type 0 where
  pub whole : bytes ≡ line
  pub some : 0 < length line
  pub none_left : new.held ≡ []
  pub ended : new.ended ≡ true
  pub short : length line ≤ limit
  pub within : length line ≤ most

-- what a call gives of the bytes that it holds and has taken: a line without its newline, or none at the end
abbrev pub IsGiven : ℕ → ℕ → List ℕ → Option (Vec ℕ Global) → LineReaderState → Type 0
IsGiven limit most bytes None new = (bytes ≡ []) × (new.held ≡ []) × (new.ended ≡ true)
IsGiven limit most bytes (Some v) new = HasNone 10 v.items × (IsEndedLine limit most bytes v.items new ⊎
    IsLastLine limit most bytes v.items new)

-- a call that was Ok
pub record Given (old new : LineReaderState) (left left' : Option (List ℕ)) (line : Option (Vec ℕ Global)) : Type 0
  where
    pub no_fault : old.fault ≡ None
    pub none_now : new.fault ≡ None
    pub moved : List ℕ
    pub moves : Moved old new left left' moved
    pub given : IsGiven old.limit (most_of old) (old.held ++ moved) line new
    pub few : length (old.held ++ moved) ≤ old.limit + 1
    pub at_end : new.ended ≡ true → (old.ended ≡ true → IsAtEnd left) → IsAtEnd left'

-- why a call gave up over the bytes that it holds
abbrev pub IsCause : ℕ → ℕ → List ℕ → LineFault → Type 0
IsCause limit most held Memory = Unit {0}
IsCause limit most held Read = HasNone 10 held × (¬ IsTooLong limit most held) × (¬ IsTooMuch limit most held)
IsCause limit most held LineTooLong = IsTooLong limit most held
IsCause limit most held TooMuch = IsTooMuch limit most held

-- a call that gave up, for the first time
pub record GaveUp (old new : LineReaderState) (left left' : Option (List ℕ)) (fault : LineFault) : Type 0 where
  pub no_fault : old.fault ≡ None
  pub not_ended : old.ended ≡ false
  pub fault_now : new.fault ≡ Some fault
  pub moved : List ℕ
  pub moves : Moved old new left left' moved
  pub held : new.held ≡ old.held ++ moved
  pub cause : IsCause old.limit (most_of old) new.held fault

-- a call after one that gave up: it answers the same fault, and nothing changes
pub record AnswersFaultAgain (old new : LineReaderState) (left left' : Option (List ℕ)) (fault : LineFault) : Type 0
  where
    pub fault_then : old.fault ≡ Some fault
    pub same : new ≡ old
    pub kept : Keeps left left'

-- a call that answers a fault, again or for the first time
abbrev pub Stops : LineReaderState → LineReaderState → Option (List ℕ) → Option (List ℕ) → LineFault → Type 0
Stops old new left left' fault = AnswersFaultAgain old new left left' fault ⊎ GaveUp old new left left' fault
