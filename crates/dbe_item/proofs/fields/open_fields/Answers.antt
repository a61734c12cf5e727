use Rattle.dbe_item.proofs.FieldSteps.{one_opened, field_reason}
use Rattle.dbe_item.proofs.fields.open_fields.Goals as goal

pub returns-in-Err-clause-fault : goal.returns-in-Err-clause-fault
returns-in-Err-clause-fault c =
    λ by signed same_names same_root. field_reason c.args.config.now c.args.row.now c.args.keys.now.root
    c.args.names.now c.loop-i.values.items c.loop-i.i c.index-names-i.result c.loop-i.invariant c.loop-i-test.true
    c.index-names-i.is by signed same_names same_root c.in-Err.fault c.with_name.result c.in-Err.ensures.fault
    c.with_name.ensures

pub loop-i-preserved : goal.loop-i-preserved
loop-i-preserved c =
    one_opened c.args.config.now c.args.row.now c.args.keys.now.root c.args.names.now c.loop-i.values.items
    c.push.new.self.items c.loop-i.i c.index-names-i.result c.in-Ok.value c.loop-i.invariant c.loop-i-test.true
    c.index-names-i.is c.in-Ok.ensures.opens c.in_ok-push-in-Ok.ensures.items
