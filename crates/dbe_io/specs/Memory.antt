-- What contracts see of a plan of failures, and of a source, a sink and random bytes in memory (this project's own).
use Rattle.std.specs.Prelude.{ℕ, ◌==◌, ◌+◌, ◌-◌, ◌^◌, min, Bool, List, if◌then◌else◌}
use Rattle.std.specs.List.{list_any}

-- calls of which some fail by a plan
pub record FailurePlanState : Type 0 where
  pub calls : ℕ  -- how many calls were made
  pub fails : List ℕ  -- which calls fail, from 1
  pub faults : ℕ  -- how many have failed

-- a source in memory
pub record SourceInMemory : Type 0 where
  pub left : List ℕ  -- the bytes still to come
  pub most : ℕ  -- the most bytes of one call
  pub calls : ℕ  -- how many calls were made
  pub fails : List ℕ  -- which calls fail, from 1
  pub faults : ℕ  -- how many have failed

-- a sink in memory
pub record SinkInMemory : Type 0 where
  pub written : List ℕ  -- the bytes that were written
  pub room : ℕ  -- the most bytes of all calls
  pub most : ℕ  -- the most bytes of one call
  pub calls : ℕ  -- how many calls were made
  pub fails : List ℕ  -- which calls fail, from 1
  pub faults : ℕ  -- how many have failed
  pub idle : ℕ  -- how many writes took nothing of a piece that has bytes
  pub finished : Bool  -- whether the last call was a `finish` that was Ok

-- random bytes in memory
pub record DiceInMemory : Type 0 where
  pub left : List ℕ  -- the bytes still to come
  pub calls : ℕ  -- how many calls were made
  pub fails : List ℕ  -- which calls fail, from 1
  pub faults : ℕ  -- how many have failed

-- a count after one more, which stays at its greatest value
abbrev pub one_more : ℕ → ℕ
one_more n = min (n + 1) (2 ^ 64 - 1)

-- a count after what has happened, or has not
abbrev pub counted : Bool → ℕ → ℕ
counted happened n = if happened then one_more n else n

-- whether this call, counted from 1, is one of those that a plan lets fail
abbrev pub fails_at : List ℕ → ℕ → Bool
fails_at fails call = list_any (λ k. k == call) fails
