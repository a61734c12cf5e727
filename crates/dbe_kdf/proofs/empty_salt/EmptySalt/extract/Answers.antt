use Rattle.std.proofs.Common.{[]}
use Rattle.dbe_kdf.proofs.NoSalt.{hkdf_extract_is}
use Rattle.dbe_kdf.proofs.empty_salt.EmptySalt.extract.Goals as goal

pub returns : goal.returns
returns c = rw (c.of.ensures, c.hmac.ensures [] c.self.invariant) (hkdf_extract_is [] c.args.ikm.now)
