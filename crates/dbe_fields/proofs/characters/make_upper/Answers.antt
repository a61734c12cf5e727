use Rattle.std.proofs.Common.{◌≡◌, ◌<◌, length, get_or, set, ap, ◌∙◌, arith}
use Rattle.std.specs.Char.{to_ascii_uppercase}
use Rattle.std.proofs.lemmas.List.{get_or_default}
use Rattle.std.proofs.lemmas.List.Edits.{map_over_more}
use Rattle.dbe_fields.proofs.characters.make_upper.Goals as goal

pub loop-c-preserved : goal.loop-c-preserved
loop-c-preserved c =
    let ys = c.loop-c.text in
    let i = c.loop-c.c-index in
    let within : i < length ys = omega arith in
    let e : c.to_ascii_uppercase.result ≡ to_ascii_uppercase (get_or ys i 0) = c.to_ascii_uppercase.ensures.value in
    ap (set ys i) e ∙ map_over_more to_ascii_uppercase c.args.text.now ys i (get_or ys i 0) (omega arith)
    c.loop-c.invariant (get_or_default ys i 0 (get_or ys i 0) within)
