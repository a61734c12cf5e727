use Rattle.std.proofs.Common.{◌≡◌, map, take}
use Rattle.dbe_cond.specs.Resolved.{operand_of}
use Rattle.dbe_cond.proofs.resolve.operands.Given as goal

abbrev pub invariant-loop-a : goal.invariant-loop-a
invariant-loop-a l = l.found ≡ map (operand_of l.text l.names l.values) (take l.a-index l.list)
