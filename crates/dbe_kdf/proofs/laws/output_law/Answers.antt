use Rattle.dbe_kdf.proofs.Outputs.{length-hmac384, bytes-hmac384, length-hmac512, bytes-hmac512, length-hkdf}
use Rattle.dbe_kdf.proofs.Outputs.{bytes-hkdf}
use Rattle.dbe_kdf.proofs.laws.output_law.Goals as goal

pub returns : goal.returns
returns c = record {
  hmac384_length = length-hmac384;
  hmac384_bytes = bytes-hmac384;
  hmac512_length = length-hmac512;
  hmac512_bytes = bytes-hmac512;
  hkdf_length = length-hkdf;
  hkdf_bytes = bytes-hkdf;
}
