use Rattle.std.proofs.Common.{◌≡◌, ℕ, ◌+◌, ◌%◌, ◌^◌, ◌<◌, get_or}
use Rattle.dbe_io.specs.KeyStream.{key_stream_byte}
use Rattle.dbe_io.proofs.cha_dice.ChaDiceDice.fill.Given as goal

abbrev pub invariant-loop-byte : goal.invariant-loop-byte
invariant-loop-byte l = record {
  key : l.self.key ≡ l.fn.self.key;
  at : l.self.at ≡ (l.fn.self.at + l.byte-index) % 2 ^ 70;
  next : (k : ℕ) → k < l.byte-index → get_or l.out k 0 ≡ key_stream_byte l.fn.self.key ((l.fn.self.at + k) % 2 ^ 70);
}
