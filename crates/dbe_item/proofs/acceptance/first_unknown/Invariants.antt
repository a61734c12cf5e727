use Rattle.std.proofs.Common.{◌≡◌, drop}
use Rattle.dbe_item.specs.Acceptance.{is_unknown}
use Rattle.dbe_item.specs.Acceptance.{first_name}
use Rattle.dbe_item.proofs.acceptance.first_unknown.Given as goal

abbrev pub invariant-loop-i : goal.invariant-loop-i
invariant-loop-i l = first_name (is_unknown l.config) (drop l.i l.item) ≡ first_name (is_unknown l.config) l.item
