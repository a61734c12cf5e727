use Rattle.std.proofs.Common.{◌≡◌, drop}
use Rattle.dbe_item.specs.Names.{is_beacon_name}
use Rattle.dbe_item.specs.Acceptance.{first_name}
use Rattle.dbe_item.proofs.beacons.first_beacon.Given as goal

abbrev pub invariant-loop-i : goal.invariant-loop-i
invariant-loop-i l = first_name is_beacon_name (drop l.i l.row) ≡ first_name is_beacon_name l.row
