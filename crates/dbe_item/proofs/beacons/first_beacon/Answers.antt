use Rattle.std.proofs.Common.{sym, ap, ◌∙◌}
use Rattle.dbe_item.specs.Names.{is_beacon_name}
use Rattle.dbe_item.proofs.Walks.{none_more, one_passes}
use Rattle.dbe_item.proofs.beacons.first_beacon.Goals as goal

pub returns-then-is_beacon_name : goal.returns-then-is_beacon_name
returns-then-is_beacon_name c = one_passes is_beacon_name c.args.row.now c.loop-i.i _ c.at.ensures
    (sym (c.is_beacon_name.ensures ∙ ap is_beacon_name c.as_bytes.ensures) ∙ c.if-is_beacon_name.true)
    c.loop-i.invariant

pub loop-i-preserved : goal.loop-i-preserved
loop-i-preserved c = none_more is_beacon_name c.args.row.now c.loop-i.i _ c.at.ensures (sym (c.is_beacon_name.ensures ∙
    ap is_beacon_name c.as_bytes.ensures) ∙ c.if-is_beacon_name.false) c.loop-i.invariant
