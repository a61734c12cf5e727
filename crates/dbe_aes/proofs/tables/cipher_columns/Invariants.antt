use Rattle.std.proofs.Common.{◌≡◌, [], ◌∷◌}
use Rattle.dbe_aes.specs.Columns.{columns}
use Rattle.dbe_aes.specs.Cipher.{rounds}
use Rattle.dbe_aes.proofs.tables.cipher_columns.Given as goal

abbrev pub invariant-loop-n : goal.invariant-loop-n
invariant-loop-n l = columns l.s ≡ rounds l.words (columns (l.a ∷ l.b ∷ l.c ∷ l.d ∷ [])) l.n
