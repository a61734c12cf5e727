use Rattle.std.proofs.Common.{◌≡◌, drop, None, option_map}
use Rattle.dbe_values.specs.KeyValues.{key_view}
use Rattle.dbe_table.proofs.Rising.{keys_rise}
use Rattle.dbe_table.proofs.key_order.is_table.Given as goal

abbrev pub invariant-loop-row : goal.invariant-loop-row
invariant-loop-row l = keys_rise l.schema (option_map key_view l.last) (drop l.row-index l.rows) ≡ keys_rise l.schema
    None l.rows
