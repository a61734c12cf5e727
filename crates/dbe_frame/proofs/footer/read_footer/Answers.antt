use Rattle.std.proofs.Common.{arith}
use Rattle.dbe_frame.proofs.Tags.{front_tags}
use Rattle.dbe_frame.proofs.footer.read_footer.Goals as goal

pub returns-clause-tags : goal.returns-clause-tags
returns-clause-tags c = front_tags c.args.n c.args.bytes.now _ _ (omega arith) (omega arith) c.as_chunks.ensures.front
    c.in_ok-from_slice.ensures.items
