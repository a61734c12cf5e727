use Rattle.dbe_kdf.proofs.NoSalt.{hkdf_extract_is}
use Rattle.dbe_kdf.proofs.prk.Prk.extract.Goals as goal

pub returns : goal.returns
returns c = rw (c.of.ensures, c.hmac512.ensures) (hkdf_extract_is c.args.salt.now c.args.ikm.now)
