use Rattle.std.proofs.Common.{refl, sym, ap, ◌∙◌}
use Rattle.dbe_aes.proofs.Counters.{mode_twice}
use Rattle.dbe_aes.specs.Counters.{inc32}
use Rattle.dbe_gcm.specs.Gcm.{gcm, streamed, j0}
use Rattle.dbe_gcm.proofs.laws.seals_what_opens.Goals as goal

pub returns-clause-sealed : goal.returns-clause-sealed
unfolding gcm streamed
returns-clause-sealed c = λ key iv aad ciphertext. rw (mode_twice key (inc32 (j0 iv)) ciphertext) refl

pub returns-clause-no_other : goal.returns-clause-no_other
unfolding gcm streamed
returns-clause-no_other c = λ key iv aad text ciphertext same.
    sym (mode_twice key (inc32 (j0 iv)) text) ∙ ap (streamed key iv) same
