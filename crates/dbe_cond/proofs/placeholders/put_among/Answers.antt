use Rattle.std.proofs.Common.{◌∙◌}
use Rattle.dbe_cond.proofs.Placed.{found_put, found_increasing, missed_put, missed_increasing}
use Rattle.dbe_cond.proofs.placeholders.put_among.Goals as goal

pub returns-in-Ok-clause-ok : goal.returns-in-Ok-clause-ok
returns-in-Ok-clause-ok g c =
    found_put c.args.entries.now.items _ c.args.placeholder _ c.args.x c.in-Ok.i c.requires c.deref.ensures.value
    c.as_bytes.ensures c.index_mut.result.now c.index_mut.ensures.value c.in-Ok.ensures.there

pub returns-in-Ok-clause-increasing : goal.returns-in-Ok-clause-increasing
returns-in-Ok-clause-increasing g c =
    found_increasing c.args.entries.now.items _ c.args.placeholder _ c.args.x c.in-Ok.i c.requires
    c.deref.ensures.value c.as_bytes.ensures c.index_mut.result.now c.index_mut.ensures.value c.in-Ok.ensures.there

pub returns-in_ok-insert-in-Err-clause-ok : goal.returns-in_ok-insert-in-Err-clause-ok
returns-in_ok-insert-in-Err-clause-ok g c =
    c.in_ok-insert-in-Err.ensures.items ∙ missed_put c.args.entries.now.items _ c.args.placeholder _ c.args.x
    c.in-Err.i c.requires c.deref.ensures.value c.as_bytes.ensures c.in-Err.ensures.gap

pub returns-in_ok-insert-in-Err-clause-increasing : goal.returns-in_ok-insert-in-Err-clause-increasing
returns-in_ok-insert-in-Err-clause-increasing g c =
    rw c.in_ok-insert-in-Err.ensures.items (missed_increasing c.args.entries.now.items _ c.args.placeholder _ c.args.x
    c.in-Err.i c.requires c.deref.ensures.value c.as_bytes.ensures c.in-Err.ensures.gap)
