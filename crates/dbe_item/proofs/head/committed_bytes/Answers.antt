use Rattle.std.proofs.Common.{◌-◌, ap, take, ◌∙◌}
use Rattle.dbe_item.proofs.Pieces.{committed_is}
use Rattle.dbe_item.proofs.head.committed_bytes.Goals as goal

pub returns : goal.returns
returns c = committed_is c.args.header.now c.args.keys.now.commit _ c.truncate.new.self.items c.deref.result.now
    c.commitment-commitment.result c.extend_from_slice.new.self.items
    (c.commitment_last.ensures.before c.args.header.now c.in_ok-bytes.bytes.items c.in_ok-bytes.ensures)
    (λ other. c.commitment_last.ensures.apart c.args.header.now other) (c.truncate.ensures.items ∙
    ap (λ n. take (n - 32) c.in_ok-bytes.bytes.items) (c.len-end.ensures ∙ c.in_ok-bytes.bytes.ok.0))
    c.deref.ensures.value c.commitment-commitment.ensures.hmac c.in_ok-extend_from_slice.ensures.items
