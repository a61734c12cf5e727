use Rattle.std.proofs.Common.{◌≡◌, ℕ, List, ◌++◌}
use Rattle.dbe_gcm.specs.Hash.{ghash}
use Rattle.dbe_gcm.specs.Tables.{IsTable}
use Rattle.dbe_gcm.proofs.Hashes.{first_blocks}
use Rattle.dbe_gcm.proofs.hash.absorb.Given as goal

abbrev pub invariant-loop-j : goal.invariant-loop-j
invariant-loop-j l = (h : ℕ) (xs : List ℕ) → IsTable h l.table → l.fn.sum ≡ ghash h xs →
    l.sum ≡ ghash h (xs ++ first_blocks l.bytes l.j)
