use Rattle.std.proofs.Common.{◌≡◌, ◌++◌, drop}
use Rattle.std.specs.List.{flat_map}
use Rattle.dbe_cond.specs.Values.{operand_values}
use Rattle.dbe_cond.proofs.collect.push_list_values.Given as goal

abbrev pub invariant-loop-operand : goal.invariant-loop-operand
invariant-loop-operand l = l.out.items ++ flat_map operand_values (drop l.operand-index l.list) ≡ l.fn.out.items ++
    flat_map operand_values l.list
