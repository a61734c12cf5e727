use Rattle.dbe_values.proofs.ReadItems.{attributes_step, attributes_end, item_fails}
use Rattle.dbe_values.proofs.LawfulValues.{names_step, next_name}
use Rattle.dbe_values.proofs.read_item.attributes_in.Goals as goal

pub returns-in-Err : goal.returns-in-Err
returns-in-Err c =
    item_fails _ _ (c.in-Some.key.now, c.in-Some.content.now) c.loop-key.item c.as_str-name.result.now c.in-Err.why _
    c.in-Some.ensures.steps c.as_str-name.ensures.value c.in-Err.ensures.gives c.loop-key.invariant.so_far
    c.fault_at-in-Err.result c.fault_at-in-Err.ensures

pub returns : goal.returns
returns c = attributes_end _ c.loop-key.item _ c.in-None.ensures.steps.0 c.loop-key.invariant.so_far

pub loop-key-preserved : goal.loop-key-preserved
loop-key-preserved c = record {
  so_far = attributes_step _ _ (c.in-Some.key.now, c.in-Some.content.now) c.loop-key.item c.put_last.new.item
      c.as_str-name.result.now c.in-Ok.value _ c.in-Some.ensures.steps c.as_str-name.ensures.value
      c.in-Ok-put_last.ensures c.in-Ok.ensures.gives c.loop-key.invariant.so_far;
  names = names_step _ _ (c.in-Some.key.now, c.in-Some.content.now) c.loop-key.item c.put_last.new.item
      c.as_str-name.result.now c.in-Ok.value _ c.in-Some.ensures.steps c.as_str-name.ensures.value
      c.in-Ok-put_last.ensures c.loop-key.invariant.names;
}

pub put_last-requires-clause-last : goal.put_last-requires-clause-last
put_last-requires-clause-last c =
    next_name _ _ (c.in-Some.key.now, c.in-Some.content.now) c.loop-key.item c.as_str-name.result.now
    c.args.members.now.entries c.into_iter-key-iterator.ensures.into_iter_gives.5 c.in-Some.ensures.steps
    c.as_str-name.ensures.value c.loop-key.invariant.names
