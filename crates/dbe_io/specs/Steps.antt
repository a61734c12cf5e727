-- The steps of one call of a reader of lines (this project's own).
use Rattle.std.specs.Prelude.{ℕ, ◌≡◌, ◌+◌, ◌-◌, ◌<◌, ◌≤◌, List, ◌++◌, length}
use Rattle.std.specs.declared.option.Option.{Option}
use Rattle.std.specs.Io.KnownBytes.{Consumes, IsAtEnd}
use Rattle.dbe_io.specs.declared.lines.LineFault.{LineFault}
use Rattle.dbe_io.specs.Lines.{first_piece}
use Rattle.dbe_io.specs.Reading.{LineReaderState, Moved, IsCause, most_of}

-- the first newline of bytes stands at a place
pub record EndsAt (bytes : List ℕ) (at : ℕ) : Type 0 where
  pub place : length (first_piece bytes) ≡ at
  pub within : at < length bytes

-- a source gave bytes, or none at its end
pub record Gave (old new : List ℕ) (left left' : Option (List ℕ)) (count : ℕ) : Type 0 where
  pub moved : List ℕ
  pub gone : Consumes left left' moved
  pub grown : new ≡ old ++ moved
  pub count_is : length moved ≡ count
  pub at_end : count ≡ 0 → IsAtEnd left'

-- no newline stands in the bytes that are held, and they are within the limits
pub record IsOpen (r : LineReaderState) : Type 0 where
  pub searched : first_piece r.held ≡ r.held
  pub short : length r.held ≤ r.limit
  pub within : length r.held ≤ most_of r

-- the first newline that is held stands at a place, within the limits
pub record IsLineAt (r : LineReaderState) (at : ℕ) : Type 0 where
  pub ends : EndsAt r.held at
  pub short : at ≤ r.limit
  pub within : at < most_of r

-- a reader took bytes from a source, and gave none
pub record Took (old new : LineReaderState) (left left' : Option (List ℕ)) : Type 0 where
  pub moved : List ℕ
  pub moves : Moved old new left left' moved
  pub held : new.held ≡ old.held ++ moved
  pub fault_is : new.fault ≡ old.fault
  pub ended_is : new.ended ≡ old.ended

-- why a call gave up, before the reader keeps it
pub record Refused (old new : LineReaderState) (left left' : Option (List ℕ)) (fault : LineFault) : Type 0 where
  pub moved : List ℕ
  pub moves : Moved old new left left' moved
  pub held : new.held ≡ old.held ++ moved
  pub fault_is : new.fault ≡ old.fault
  pub ended_is : new.ended ≡ old.ended
  pub cause : IsCause old.limit (most_of old) new.held fault

-- at most how often the reader may still read
abbrev pub reads_left : LineReaderState → ℕ
reads_left r = r.total + 2 - r.taken
