use Rattle.std.proofs.Common.{◌≡◌, ℕ, ◌+◌, ◌*◌, ◌<◌, get_or}
use Rattle.dbe_gcm.specs.Blocks.{raised}
use Rattle.dbe_gcm.specs.Tables.{entry}
use Rattle.dbe_gcm.proofs.table.fill_table.Given as goal

abbrev pub invariant-loop-i : goal.invariant-loop-i
invariant-loop-i l = record {
  entries : (k : ℕ) → k < 16 * l.i → get_or l.table k 0 ≡ entry l.h k;
  power : l.power ≡ raised (4 * l.i) l.h;
}

abbrev pub invariant-loop-n : goal.invariant-loop-n
invariant-loop-n l = (k : ℕ) → k < 16 * l.i + l.n → get_or l.table k 0 ≡ entry l.h k
