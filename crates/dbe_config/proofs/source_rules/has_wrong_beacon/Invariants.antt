use Rattle.std.proofs.Common.{◌≡◌, drop}
use Rattle.dbe_config.specs.Rules.{has_wrong_beacon}
use Rattle.dbe_config.specs.Entries.{entries_of}
use Rattle.dbe_config.proofs.source_rules.has_wrong_beacon.Given as goal

abbrev pub invariant-loop-beacon : goal.invariant-loop-beacon
invariant-loop-beacon l = has_wrong_beacon (entries_of l.actions.entries) l.virtuals (drop l.beacon-index l.beacons) ≡
    has_wrong_beacon (entries_of l.actions.entries) l.virtuals l.beacons
