use Rattle.std.proofs.Common.{vec_items}
use Rattle.dbe_values.proofs.Ordered.{put_new, put_old}
use Rattle.dbe_values.proofs.place.put_binary.Goals as goal

pub returns-then-branch-clause-gives : goal.returns-then-branch-clause-gives
returns-then-branch-clause-gives c = put_new vec_items c.into_vec.result c.args.binary c.args.binaries.now.keys
    c.insert.new.self.keys c.in_ok-insert.field-0 c.into_vec.ensures c.in_ok-insert.ensures.keys
    c.in_ok-insert.ensures.len c.if-branch.true

pub returns-else-branch-clause-gives : goal.returns-else-branch-clause-gives
returns-else-branch-clause-gives c = put_old vec_items c.into_vec.result c.args.binary c.args.binaries.now.keys
    c.insert.new.self.keys c.in_ok-insert.field-0 c.into_vec.ensures c.in_ok-insert.ensures.keys
    c.in_ok-insert.ensures.len c.if-branch.false
