use Rattle.std.proofs.Common.{◌≡◌, ◌%◌, bit_and, arith, refl, sym, ◌∙◌}
use Rattle.std.proofs.lemmas.Nat.{and_mask}
use Rattle.dbe_gcm.specs.Blocks.{times_x}
use Rattle.dbe_gcm.proofs.product.times_x.Goals as goal

pub returns-then-v-eq1 : goal.returns-then-v-eq1
unfolding times_x
returns-then-v-eq1 c = let odd : c.args.v % 2 ≡ 1 = sym (and_mask c.args.v 1) ∙ c.if-v-eq1.true in rw odd refl

pub returns-else-v-eq1 : goal.returns-else-v-eq1
unfolding times_x
returns-else-v-eq1 c =
    let bit : bit_and c.args.v 1 ≡ c.args.v % 2 = and_mask c.args.v 1 in
    let even : c.args.v % 2 ≡ 0 = omega (arith, c.if-v-eq1.false) in
    rw even refl
