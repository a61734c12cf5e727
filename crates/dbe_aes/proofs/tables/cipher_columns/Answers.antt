use Rattle.std.proofs.Common.{◌≡◌, refl, add-one, arith, ◌∙◌}
use Rattle.dbe_aes.specs.Columns.{columns}
use Rattle.dbe_aes.specs.Cipher.{rounds, cipher_by_words}
use Rattle.dbe_aes.proofs.tables.cipher_columns.Goals as goal

pub loop-n-init : goal.loop-n-init
unfolding rounds
loop-n-init c = c.first_round-s.ensures

pub loop-n-preserved : goal.loop-n-preserved
unfolding rounds
loop-n-preserved c = rw (c.round-next.ensures, c.loop-n.invariant, add-one) refl

pub returns : goal.returns
unfolding cipher_by_words columns
returns c =
    let done : c.loop-n.n ≡ 13 = omega arith in
    c.bytes_of.ensures ∙ c.last_round.ensures ∙ rw (c.loop-n.invariant, done) refl
