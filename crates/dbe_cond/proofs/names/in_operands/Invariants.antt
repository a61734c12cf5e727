use Rattle.std.proofs.Common.{◌≡◌, drop}
use Rattle.std.specs.List.{flat_map}
use Rattle.dbe_cond.specs.Names.{operand_names, first_with}
use Rattle.dbe_cond.proofs.names.in_operands.Given as goal

abbrev pub invariant-loop-operand : goal.invariant-loop-operand
invariant-loop-operand l =
    first_with l.prefix (flat_map operand_names (drop l.operand-index l.operands)) ≡ first_with l.prefix
    (flat_map operand_names l.operands)
