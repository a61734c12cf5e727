use Rattle.std.proofs.Common.{◌≡◌, rules, false, option_map}
use Rattle.dbe_values.specs.KeyValues.{key_view}
use Rattle.dbe_table.proofs.Rising.{rises_not, rises_to_the_end}
use Rattle.dbe_table.proofs.key_order.is_table.Goals as goal

pub returns-then-not-branch : goal.returns-then-not-branch
returns-then-not-branch c =
    let off : c.in_ok-goes_on.field-0 ≡ false = search rules in
    rises_not c.args.schema.now (option_map key_view c.loop-row.last) c.args.rows.now c.loop-row.row-index
    c.row-item.result c.in_ok-goes_on.field-0 c.loop-row-test.true c.row-item.is c.in_ok-goes_on.ensures.on off
    c.loop-row.invariant

pub returns : goal.returns
returns c = rises_to_the_end c.args.schema.now (option_map key_view c.loop-row.last) c.args.rows.now
    c.loop-row.row-index c.loop-row-test.false c.loop-row.invariant
