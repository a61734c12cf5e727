-- What opening a row answers (this project's own).
use Rattle.std.specs.Prelude.{◌≢◌, List, ℕ, Result, Ok, Err}
use Rattle.dbe_values.specs.declared.value.AttrValue.{AttrValue}
use Rattle.dbe_config.specs.Setting.{Setting}
use Rattle.dbe_item.specs.Opens.{Opens, AreCounts}
use Rattle.dbe_item.specs.Reasons.{IsSealedReason}
use Rattle.dbe_item.specs.declared.open_fault.OpenFault.{OpenFault}
use Rattle.dbe_item.specs.declared.open_fault.OpenFault.TheVariants.{Memory}
use Rattle.dbe_item.specs.declared.unsealing.Opened.{Opened}

-- the item that a row opens to, with the place and the counts; or the reason why it opens to none
abbrev pub IsOpening : Setting → List (List ℕ × AttrValue) → Result Opened OpenFault → Type 0
IsOpening c row (Ok opened) = Opens c row opened.item opened.recipient × AreCounts c row opened.encrypted opened.signed
IsOpening c row (Err fault) = (fault ≢ Memory) × IsSealedReason fault c row
