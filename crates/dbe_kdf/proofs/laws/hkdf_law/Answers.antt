use Rattle.dbe_kdf.proofs.Blocks.{take-hkdf}
use Rattle.dbe_kdf.proofs.NoSalt.{hkdf-empty_salt}
use Rattle.dbe_kdf.proofs.laws.hkdf_law.Goals as goal

pub returns-clause-prefix : goal.returns-clause-prefix
returns-clause-prefix c = take-hkdf

pub returns-clause-empty_salt : goal.returns-clause-empty_salt
returns-clause-empty_salt c = hkdf-empty_salt
