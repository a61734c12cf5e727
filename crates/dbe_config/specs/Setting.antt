-- A configuration, as contracts see it (this project's own).
use Rattle.std.specs.Prelude.{ℕ, List, Option}
use Rattle.dbe_values.specs.declared.key.KeySchema.{KeySchema}
use Rattle.dbe_config.specs.declared.action.Action.{Action}
use Rattle.dbe_config.specs.declared.context_pair.ContextPair.{ContextPair}
use Rattle.dbe_config.specs.declared.recipient.Recipient.{Recipient}
use Rattle.dbe_config.specs.declared.virtual_field.Virtual.{Virtual}
use Rattle.dbe_config.specs.declared.standard.Standard.{Standard}
use Rattle.dbe_config.specs.declared.compound.Compound.{Compound}

pub record Setting : Type 0 where
  pub table : List ℕ  -- the table's name
  pub schema : KeySchema  -- the keys of its rows
  pub actions : List (List ℕ × Action)  -- the listed attributes, in order of names
  pub unsigned_prefix : Option (List ℕ)  -- what begins the names that are neither signed nor encrypted
  pub context : List ContextPair  -- in order of keys
  pub recipients : List Recipient
  pub beacon_branch : Option (List ℕ)
  pub virtuals : List Virtual
  pub beacons : List Standard
  pub compounds : List Compound
