use Rattle.std.proofs.Common.{◌≡◌, ◌∙◌, ◌^◌, ◌%◌, bit_and}
use Rattle.std.proofs.lemmas.Nat.{and_mask}
use Rattle.dbe_gcm.proofs.Nibbles.{halves}
use Rattle.dbe_gcm.proofs.table.times.Goals as goal

pub returns : goal.returns
returns c = λ h table.
    let low : bit_and c.args.y 18446744073709551615 ≡ c.args.y % 2 ^ 64 = and_mask c.args.y 64 in
    c.add_half.ensures h table ∙ rw (c.add_half-sum.ensures h table, low) (halves h c.args.y)
