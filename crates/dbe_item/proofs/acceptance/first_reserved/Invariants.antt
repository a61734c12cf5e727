use Rattle.std.proofs.Common.{◌≡◌, drop}
use Rattle.dbe_config.specs.Actions.{is_reserved}
use Rattle.dbe_item.specs.Acceptance.{first_name}
use Rattle.dbe_item.proofs.acceptance.first_reserved.Given as goal

abbrev pub invariant-loop-i : goal.invariant-loop-i
invariant-loop-i l = first_name is_reserved (drop l.i l.item) ≡ first_name is_reserved l.item
