use Rattle.std.proofs.Common.{◌≡◌, take}
use Rattle.dbe_item.specs.Names.{strip}
use Rattle.dbe_item.proofs.stripping.strip.Given as goal

abbrev pub invariant-loop-i : goal.invariant-loop-i
invariant-loop-i l = l.item ≡ strip (take l.i l.row)
