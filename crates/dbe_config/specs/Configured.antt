-- The configuration that bytes spell (this project's own).
use Rattle.std.specs.Prelude.{ℕ, List, length, nat_le, Option, Some, None, Result, Ok, Err, if◌then◌else◌}
use Rattle.serde_json.specs.Data.{Data}
use Rattle.dbe_values.specs.Json.{json_of}
use Rattle.dbe_config.specs.declared.fault.ConfigFault.{ConfigFault}
use Rattle.dbe_config.specs.declared.fault.ConfigFault.TheVariants as f
use Rattle.dbe_config.specs.Setting.{Setting}
use Rattle.dbe_config.specs.Shape.{setting_in}
use Rattle.dbe_config.specs.Order.{first_fault}

abbrev pub shaped : Option Setting → Result Setting ConfigFault
shaped None = Err f.Shape
shaped (Some s) = Ok s

abbrev pub formed : Option Data → Result Setting ConfigFault
formed None = Err f.NotJson
formed (Some d) = shaped (setting_in d)

abbrev pub unless : Option ConfigFault → Setting → Result Setting ConfigFault
unless None s = Ok s
unless (Some fault) s = Err fault

abbrev pub judged : Result Setting ConfigFault → Result Setting ConfigFault
judged (Err fault) = Err fault
judged (Ok s) = unless (first_fault s) s

-- the configuration where no rule is broken, else the first refusal of the order whose cause holds
abbrev pub configured : List ℕ → Result Setting ConfigFault
configured bytes = if nat_le (length bytes) 1048576 then judged (formed (json_of bytes)) else Err f.TooLong
