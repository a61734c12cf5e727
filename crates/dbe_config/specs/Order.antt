-- The order of refusals (this project's own).
use Rattle.std.specs.Prelude.{◌≡◌, Bool, true, false, List, [], ◌∷◌, ◌++◌, length, nat_lt, Option, Some, None}
use Rattle.std.specs.Prelude.{if◌then◌else◌}
use Rattle.std.specs.List.{list_any}
use Rattle.dbe_config.specs.declared.fault.ConfigFault.{ConfigFault}
use Rattle.dbe_config.specs.declared.fault.ConfigFault.TheVariants as f
use Rattle.dbe_config.specs.Setting.{Setting}
use Rattle.dbe_config.specs.Rules.{is_key_listed_otherwise, uses_reserved_name, uses_name_twice}
use Rattle.dbe_config.specs.Rules.{has_wrong_length, has_wrong_source, has_prefix_clash, has_wrong_split}
use Rattle.dbe_config.specs.Rules.{is_empty_compound, has_ring_twice, is_not_built}

-- Each rule's breach with its refusal, in order.
abbrev pub breaches : Setting → List (Bool × ConfigFault)
breaches s =
    (is_key_listed_otherwise s.schema s.actions, f.KeyAction)
    ∷ (uses_reserved_name s, f.ReservedName)
    ∷ (uses_name_twice s, f.NameTwice)
    ∷ (has_wrong_length s.beacons, f.BeaconLength)
    ∷ (has_wrong_source s, f.BeaconSource)
    ∷ (list_any has_prefix_clash s.compounds, f.PrefixClash)
    ∷ (list_any has_wrong_split s.compounds, f.SplitChar)
    ∷ (list_any is_empty_compound s.compounds, f.ConstructorEmpty)
    ∷ (has_ring_twice s.recipients, f.RecipientTwice)
    ∷ (nat_lt 8 (length s.recipients), f.TooManyRecipients)
    ∷ (is_not_built s, f.NotBuilt)
    ∷ []

abbrev pub first_of : List (Bool × ConfigFault) → Option ConfigFault
first_of [] = None
first_of (b ∷ others) = if b.0 then Some b.1 else first_of others

-- the refusal of the first rule that is broken
abbrev pub first_fault : Setting → Option ConfigFault
first_fault s = first_of (breaches s)

-- none of these rules is broken
abbrev pub AreKept : List (Bool × ConfigFault) → Type 0
AreKept [] = Unit {0}
AreKept (b ∷ others) = (b.0 ≡ false) × AreKept others

-- the rule of this refusal is broken, and none before it
pub record IsFirst (rules : List (Bool × ConfigFault)) (fault : ConfigFault) : Type 0 where
  pub earlier : List (Bool × ConfigFault)
  pub later : List (Bool × ConfigFault)
  pub place : rules ≡ earlier ++ (true, fault) ∷ later
  pub kept : AreKept earlier
