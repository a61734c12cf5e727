use Rattle.std.proofs.Common.{◌+◌, ◌==◌, sym, ap, ◌∙◌}
use Rattle.std.proofs.lemmas.List.Splits.{length-slice_split}
use Rattle.dbe_fields.proofs.pieces.piece_count.Goals as goal

pub returns : goal.returns
returns c = ap (λ n. n + 1) c.cut_count.ensures ∙ sym (length-slice_split (λ x. x == c.args.cut) c.args.text.now)
