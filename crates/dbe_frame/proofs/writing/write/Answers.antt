use Rattle.std.proofs.Common.{ℕ, List, [], ◌∷◌, ◌++◌, ap, ◌∙◌}
use Rattle.dbe_frame.proofs.Written.{header_written, same_header}
use Rattle.dbe_frame.proofs.writing.write.Goals as goal

pub returns : goal.returns
returns c =
    let written = header_written _ _ _ _ _ _ _ (c.in_ok-put_bytes.ensures ∙
    ap (λ (t : List ℕ). t ++ 1 ∷ 0 ∷ []) c.in_ok-out.ensures.items) c.in_ok-put_bytes-2.ensures
    c.in_ok-put_string.ensures c.in_ok-put_pairs.ensures c.in_ok-put_edks.ensures c.in_ok-put_bytes-3.ensures in
    record {
      parts = c.has_parts.ensures;
      text = same_header c.args.header.now _ _ _ _ _ _ c.message_id.ensures
          c.legend.ensures c.context.ensures c.edks.ensures c.commitment.ensures written;
    }
