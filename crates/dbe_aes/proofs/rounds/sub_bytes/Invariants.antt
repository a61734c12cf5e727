use Rattle.std.proofs.Common.{◌≡◌, ℕ, ◌<◌, length, get_or}
use Rattle.dbe_aes.specs.Bytes.{sbox}
use Rattle.dbe_aes.proofs.rounds.sub_bytes.Given as goal

abbrev pub invariant-loop-i : goal.invariant-loop-i
invariant-loop-i l = (length l.new ≡ 16) × ((k : ℕ) → k < l.i → get_or l.new k 0 ≡ sbox (get_or l.s k 0))
