-- Names and what is done with them (this project's own).
use Rattle.std.specs.Prelude.{ℕ, ◌||◌, Bool, true, false, List, [], ◌∷◌, nat_eq, codes, bytes_eq, Option, Some, None}
use Rattle.std.specs.Prelude.{if◌then◌else◌}
use Rattle.std.specs.List.{starts_with}
use Rattle.dbe_values.specs.declared.key.KeyName.{KeyName}
use Rattle.dbe_values.specs.declared.key.KeySchema.{KeySchema}
use Rattle.dbe_config.specs.declared.action.Action.{Action}
use Rattle.dbe_config.specs.declared.action.Action.TheVariants as action

-- the names that dbe keeps for itself
abbrev pub is_reserved : List ℕ → Bool
is_reserved name = starts_with nat_eq name (codes "aws_dbe_")

abbrev pub is_sort : List ℕ → Option KeyName → Bool
is_sort name None = false
is_sort name (Some key) = bytes_eq key.name name

-- the name of a key
abbrev pub is_key : List ℕ → KeySchema → Bool
is_key name schema = bytes_eq schema.partition.name name || is_sort name schema.sort

-- the action that is listed for a name
abbrev pub action_at : List ℕ → List (List ℕ × Action) → Option Action
action_at name [] = None
action_at name (a ∷ others) = if bytes_eq name a.0 then Some a.1 else action_at name others

-- whether the name begins with the unsigned prefix, where there is one
abbrev pub has_prefix : Option (List ℕ) → List ℕ → Bool
has_prefix None name = false
has_prefix (Some prefix) name = starts_with nat_eq name prefix

abbrev pub or_unsigned : Option Action → Bool → Option Action
or_unsigned (Some a) unsigned = Some a
or_unsigned None true = Some action.DoNothing
or_unsigned None false = None

-- A key name is signed only; any other name has its listed action, else none is taken where it begins with the
-- unsigned prefix.
abbrev pub action_for : KeySchema → List (List ℕ × Action) → Option (List ℕ) → List ℕ → Option Action
action_for schema actions prefix name = if is_key name schema then Some action.SignOnly else or_unsigned
    (action_at name actions) (has_prefix prefix name)

abbrev pub is_do_nothing : Option Action → Bool
is_do_nothing None = false
is_do_nothing (Some action.EncryptAndSign) = false
is_do_nothing (Some action.SignOnly) = false
is_do_nothing (Some action.DoNothing) = true

-- A name that is neither signed nor encrypted.
abbrev pub is_unsigned : KeySchema → List (List ℕ × Action) → Option (List ℕ) → List ℕ → Bool
is_unsigned schema actions prefix name = is_do_nothing (action_for schema actions prefix name) || is_reserved name

abbrev pub is_encrypted : Option Action → Bool
is_encrypted None = false
is_encrypted (Some action.EncryptAndSign) = true
is_encrypted (Some action.SignOnly) = false
is_encrypted (Some action.DoNothing) = false

abbrev pub is_signed_only : Option Action → Bool
is_signed_only None = false
is_signed_only (Some action.EncryptAndSign) = false
is_signed_only (Some action.SignOnly) = true
is_signed_only (Some action.DoNothing) = false
