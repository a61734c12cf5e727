use Rattle.std.proofs.Common.{◌≡◌}
use Rattle.dbe_aes.specs.Cipher.{rounds}
use Rattle.dbe_aes.proofs.rounds.cipher_by_words.Given as goal

abbrev pub invariant-loop-n : goal.invariant-loop-n
invariant-loop-n l = l.s ≡ rounds l.words l.block l.n
