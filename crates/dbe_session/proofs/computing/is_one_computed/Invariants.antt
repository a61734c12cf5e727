use Rattle.std.proofs.Common.{◌≡◌, drop}
use Rattle.std.specs.List.{list_any, flat_map}
use Rattle.dbe_cond.specs.Names.{operand_names}
use Rattle.dbe_fields.specs.Plain.{is_computed}
use Rattle.dbe_session.proofs.computing.is_one_computed.Given as goal

abbrev pub invariant-loop-operand : goal.invariant-loop-operand
invariant-loop-operand l =
    list_any (is_computed l.config) (flat_map operand_names (drop l.operand-index l.operands)) ≡ list_any
    (is_computed l.config) (flat_map operand_names l.operands)
