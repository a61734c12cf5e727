use Rattle.std.proofs.Common.{◌≡◌, map, take}
use Rattle.dbe_cond.specs.Printed.{operand_shape}
use Rattle.dbe_cond.proofs.shape.operand_shapes.Given as goal

abbrev pub invariant-loop-operand : goal.invariant-loop-operand
invariant-loop-operand l = l.found ≡ map operand_shape (take l.operand-index l.list)
