use Rattle.std.proofs.Common.{◌≡◌, ℕ, ◌+◌, ◌<◌, ◌≤◌, get_or, bit_xor}
use Rattle.dbe_aes.proofs.key.add_rest.Given as goal

abbrev pub invariant-loop-i : goal.invariant-loop-i
invariant-loop-i l = record {
  before : (k : ℕ) → k < l.at → get_or l.bytes k 0 ≡ get_or l.fn.bytes k 0;
  added : (k : ℕ) → k < l.i → get_or l.bytes (l.at + k) 0 ≡ bit_xor (get_or l.fn.bytes (l.at + k) 0)
      (get_or l.block k 0);
  after : (k : ℕ) → l.at + l.i ≤ k → get_or l.bytes k 0 ≡ get_or l.fn.bytes k 0;
}
