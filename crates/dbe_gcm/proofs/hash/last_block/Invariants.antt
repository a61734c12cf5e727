use Rattle.std.proofs.Common.{◌≡◌, ℕ, ◌+◌, ◌<◌, ◌≤◌, length, get_or}
use Rattle.dbe_gcm.proofs.hash.last_block.Given as goal

abbrev pub invariant-loop-i : goal.invariant-loop-i
invariant-loop-i l = record {
  long : length l.last ≡ 16;
  same : (k : ℕ) → k < l.i → get_or l.last k 0 ≡ get_or l.bytes (l.at + k) 0;
  zeros : (k : ℕ) → l.i ≤ k → get_or l.last k 0 ≡ 0;
}
