-- What is within the rules of a run, what is taken of a configuration, and when it is refused (this project's own).
use Rattle.std.specs.Prelude.{◌≡◌, ◌≢◌, ◌⊎◌, ◌<◌, ◌≤◌, ℕ, List, ◌++◌, length, Some, Err, IsOk}
use Rattle.std.specs.declared.option.Option.{Option}
use Rattle.std.specs.Io.KnownBytes.{Consumes}
use Rattle.dbe_config.specs.Configured.{configured}
use Rattle.dbe_serve.specs.Stops.{HasLongLine}
use Rattle.dbe_config.specs.declared.fault.ConfigFault.{ConfigFault}
use Rattle.dbe_config.specs.declared.fault.ConfigFault.TheVariants as f
use Rattle.dbe_serve.specs.declared.status.Status.{Status}
use Rattle.dbe_serve.specs.declared.status.Status.TheVariants as s

-- told bytes spell no configuration for this reason, which is not that memory ran out
pub record IsRefused (fault : ConfigFault) (told : Option (List ℕ)) : Type 0 where
  pub not_memory : fault ≢ f.Memory
  pub refused : (bytes : List ℕ) → told ≡ Some bytes → configured bytes ≡ Err fault

-- the statuses of reading a configuration
abbrev pub IsOfConfig : Status → Option (List ℕ) → Type 0
IsOfConfig (s.Config fault) told = IsRefused fault told
IsOfConfig s.Read told = Unit {0}
IsOfConfig s.Memory told = Unit {0}
IsOfConfig _ told = ⊥

-- the statuses of reading bytes
abbrev pub IsOfReading : Status → Type 0
IsOfReading s.Read = Unit {0}
IsOfReading s.Memory = Unit {0}
IsOfReading _ = ⊥

-- told bytes, or a prefix of them that is longer than a configuration may be
abbrev pub IsConfigPrefix : Option (List ℕ) → List ℕ → Type 0
IsConfigPrefix told prefix = (bytes : List ℕ) → told ≡ Some bytes → (bytes ≡ prefix) ⊎ ((1048576 < length prefix) ×
    ((rest : List ℕ) × (bytes ≡ prefix ++ rest)))

-- told bytes lose a prefix of at most so many bytes
pub record IsTaken (most : ℕ) (old new : Option (List ℕ)) : Type 0 where
  pub prefix : List ℕ
  pub gone : Consumes old new prefix
  pub few : length prefix ≤ most

-- no arguments, told bytes that spell a configuration, and a told script within the limits on its lines and its length
pub record IsWithinRules (arguments : ℕ) (config script : Option (List ℕ)) : Type 0 where
  pub no_arguments : arguments ≡ 0
  pub bytes : List ℕ
  pub told : config ≡ Some bytes
  pub accepted : IsOk (configured bytes)
  pub script_bytes : List ℕ
  pub script_told : script ≡ Some script_bytes
  pub no_long_line : ¬ HasLongLine script_bytes
  pub short : length script_bytes ≤ 1073741824
