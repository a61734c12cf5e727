-- The bounds that every configuration keeps (this project's own).
use Rattle.std.specs.Prelude.{ℕ, ◌≤◌, List, length, map}
use Rattle.std.specs.List.{All}
use Rattle.std.specs.List.Sorted.{IsStrictlySortedBy}
use Rattle.std.specs.Option.{IfSome}
use Rattle.std.specs.Ordering.{nat_cmp}
use Rattle.std.specs.Cmp.Lexicographic.{slice_cmp}
use Rattle.dbe_config.specs.declared.context_pair.ContextPair.{ContextPair}
use Rattle.dbe_config.specs.declared.recipient.Recipient.{Recipient}
use Rattle.dbe_config.specs.declared.recipient.Recipient.TheVariants as recipient
use Rattle.dbe_config.specs.Setting.{Setting}

-- from low to high bytes
abbrev pub HasBytes : ℕ → ℕ → List ℕ → Type 0
HasBytes low high text = (low ≤ length text) × (length text ≤ high)

-- a key of 1 to 255 bytes, and a value of at most 1,024
abbrev pub IsPair : ContextPair → Type 0
IsPair p = HasBytes 1 255 p.key × HasBytes 0 1024 p.value

-- the keys are strictly increasing by their bytes
abbrev pub AreInOrder : List ContextPair → Type 0
AreInOrder pairs = IsStrictlySortedBy (slice_cmp nat_cmp) (map (λ p. p.key) pairs)

-- namespace and name of a raw ring have 1 to 255 bytes
abbrev pub IsRing : Recipient → Type 0
IsRing (recipient.Raw namespace name key) = HasBytes 1 255 namespace × HasBytes 1 255 name
IsRing (recipient.Branch branch) = Unit {0}

pub record IsBounded (s : Setting) : Type 0 where
  pub table : HasBytes 1 255 s.table
  pub partition : HasBytes 1 245 s.schema.partition.name
  pub sort : IfSome s.schema.sort (λ key. HasBytes 1 245 key.name)
  pub pairs_count : length s.context ≤ 32
  pub pairs : All IsPair s.context
  pub order : AreInOrder s.context
  pub rings : All IsRing s.recipients
  pub virtuals : All (λ v. HasBytes 1 245 v.name) s.virtuals
  pub beacons : All (λ b. b.length ≤ 63) s.beacons
  pub compounds : All (λ c. HasBytes 1 245 c.name × (c.split ≤ 126)) s.compounds
