use Rattle.std.proofs.Common.{string_bytes}
use Rattle.dbe_values.proofs.Ordered.{put_new, put_old}
use Rattle.dbe_values.proofs.place.put_text.Goals as goal

pub returns-then-branch-clause-gives : goal.returns-then-branch-clause-gives
returns-then-branch-clause-gives c = put_new string_bytes c.into_string.result c.args.text c.args.texts.now.keys
    c.insert.new.self.keys c.in_ok-insert.field-0 c.into_string.ensures c.in_ok-insert.ensures.keys
    c.in_ok-insert.ensures.len c.if-branch.true

pub returns-else-branch-clause-gives : goal.returns-else-branch-clause-gives
returns-else-branch-clause-gives c = put_old string_bytes c.into_string.result c.args.text c.args.texts.now.keys
    c.insert.new.self.keys c.in_ok-insert.field-0 c.into_string.ensures c.in_ok-insert.ensures.keys
    c.in_ok-insert.ensures.len c.if-branch.false
