use Rattle.std.proofs.Common.{refl}
use Rattle.dbe_aes.proofs.Counters.{mode_twice}
use Rattle.dbe_aes.specs.Counters.{inc32}
use Rattle.dbe_gcm.specs.Gcm.{gcm, streamed, j0}
use Rattle.dbe_gcm.proofs.seal.open_in_place.Goals as goal

pub returns-then-is_same-clause-deciphered : goal.returns-then-is_same-clause-deciphered
unfolding streamed
returns-then-is_same-clause-deciphered c = λ h. rw (c.ctr.ensures, c.after_j0.ensures) refl

pub returns-then-is_same-clause-sealed : goal.returns-then-is_same-clause-sealed
unfolding gcm streamed
returns-then-is_same-clause-sealed c = λ h.
    rw (
      c.ctr.ensures,
      c.after_j0.ensures,
      mode_twice c.args.key.now (inc32 (j0 c.args.iv.now)) c.args.bytes.now,
      ← c.tag_of.ensures,
      c.is_same.ensures.0 c.if-is_same.true,
    ) refl
