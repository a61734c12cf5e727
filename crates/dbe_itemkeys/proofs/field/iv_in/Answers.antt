use Rattle.std.proofs.Common.{◌≤◌, ◌∙◌, drop, length, length-drop, arith}
use Rattle.std.proofs.lemmas.List.{take_all}
use Rattle.dbe_itemkeys.proofs.field.iv_in.Goals as goal

pub returns : goal.returns
returns c =
    let size : length (drop 32 c.args.bytes.now) ≤ 12 = omega (arith, length-drop 32 c.args.bytes.now) in
    c.copy_from_slice.ensures.after ∙ take_all 12 (drop 32 c.args.bytes.now) size
