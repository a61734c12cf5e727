use Rattle.std.proofs.Common.{◌≡◌, ℕ, ◌-◌, ◌*◌, ◌<◌, length, take, get_or}
use Rattle.dbe_aes.specs.Words.{word_at, words_of}
use Rattle.dbe_aes.proofs.schedule.key_schedule.Given as goal

abbrev pub invariant-loop-i : goal.invariant-loop-i
invariant-loop-i l = (length l.words ≡ 60) × ((k : ℕ) → k < l.i → get_or l.words k 0 ≡ word_at l.key (4 * k))

abbrev pub invariant-loop-next : goal.invariant-loop-next
invariant-loop-next l = (length l.words ≡ 60) × (take l.next l.words ≡ words_of l.key (l.next - 8))
