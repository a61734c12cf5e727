-- What is taken of a configuration.
use Rattle.std.proofs.Common.{ℕ, ◌≤◌, ◌+◌, List, [], ◌++◌, length, length-append, arith}
use Rattle.std.specs.declared.option.Option.{Option}
use Rattle.std.specs.Io.KnownBytes.{Consumes, Keeps}
use Rattle.std.proofs.KnownBytes.{Consumes-nil, Consumes-kept, Consumes-trans}
use Rattle.dbe_serve.specs.Rules.{IsTaken}

-- nothing was taken
pub taken_none : (most : ℕ) (old : Option (List ℕ)) → IsTaken most old old
taken_none most old = record { prefix = []; gone = Consumes-nil old; few = omega arith }

-- what was taken, and nothing more
pub taken_kept : (most : ℕ) (old mid new : Option (List ℕ)) (prefix : List ℕ) → Consumes old mid prefix →
    Keeps mid new → length prefix ≤ most → IsTaken most old new
taken_kept most old mid new prefix gone kept few = record {
  prefix = prefix;
  gone =
      Consumes-kept old mid new prefix gone kept;
  few = few;
}

-- what was taken, and a piece more
pub taken_more : (most : ℕ) (old mid new : Option (List ℕ)) (prefix piece : List ℕ) → Consumes old mid prefix →
    Consumes mid new piece → length prefix + length piece ≤ most → IsTaken most old new
taken_more most old mid new prefix piece gone more few = record {
  prefix = prefix ++ piece;
  gone =
      Consumes-trans old mid new prefix piece gone more;
  few = rw length-append few;
}
