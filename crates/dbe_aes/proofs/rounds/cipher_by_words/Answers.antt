use Rattle.std.proofs.Common.{refl, add-one, arith, ◌≡◌}
use Rattle.dbe_aes.specs.Cipher.{rounds, cipher_by_words}
use Rattle.dbe_aes.proofs.rounds.cipher_by_words.Goals as goal

pub loop-n-init : goal.loop-n-init
unfolding rounds
loop-n-init c = c.add_round_key-s.ensures

pub loop-n-preserved : goal.loop-n-preserved
unfolding rounds
loop-n-preserved c = rw (
  c.add_round_key-s-in-loop-n.ensures,
  c.mix_columns.ensures,
  c.shift_rows.ensures,
  c.sub_bytes.ensures,
  c.loop-n.invariant,
  add-one,
) refl

pub returns : goal.returns
unfolding cipher_by_words
returns c =
    let done : c.loop-n.n ≡ 13 = omega arith in
    rw (c.add_round_key.ensures, c.shift_rows-2.ensures, c.sub_bytes-2.ensures, c.loop-n.invariant, done) refl
