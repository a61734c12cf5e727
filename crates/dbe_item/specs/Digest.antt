-- Steps of the digest of a record text; not part of what is promised.
use Rattle.std.specs.Prelude.{ℕ, List, ◌++◌}
use Rattle.sha2.specs.Hashers.{Holds384}
use Rattle.sha2.specs.declared.Sha384.{Sha384}

-- a hasher has taken in a text
pub record Feeds (old new : Sha384) (text : List ℕ) : Type 0 where
  pub holds : (before : List ℕ) → Holds384 old before → Holds384 new (before ++ text)
