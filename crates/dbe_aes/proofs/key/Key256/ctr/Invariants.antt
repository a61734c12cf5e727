use Rattle.std.proofs.Common.{◌≡◌, ◌*◌, [], ◌∷◌}
use Rattle.dbe_aes.specs.Columns.{columns}
use Rattle.dbe_aes.specs.Counters.{counter_block}
use Rattle.dbe_aes.proofs.Counters.{AddedTo}
use Rattle.dbe_aes.proofs.key.Key256.ctr.Given as goal

abbrev pub invariant-loop-j : goal.invariant-loop-j
invariant-loop-j l = record {
  added : AddedTo l.self l.first l.fn.bytes l.bytes (16 * l.j);
  counter : columns (l.a ∷ l.b ∷ l.c ∷ l.count ∷ []) ≡ counter_block l.first l.j;
}
