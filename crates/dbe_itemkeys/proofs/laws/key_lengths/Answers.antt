use Rattle.std.proofs.Common.{◌≤◌, ◌<◌, ℕ, length, arith, codes, [], ◌++◌}
use Rattle.std.proofs.lemmas.List.{length-take-le}
use Rattle.std.proofs.lemmas.List.Elements.{All-take}
use Rattle.sha2.specs.Sha512.{sha384}
use Rattle.dbe_kdf.specs.Hmac.{hmac}
use Rattle.dbe_kdf.proofs.Outputs.{length-hmac384, bytes-hmac384, length-hkdf, bytes-hkdf}
use Rattle.dbe_itemkeys.specs.ItemKeys.{commit_key, root_key, commitment, recipient_tag}
use Rattle.dbe_itemkeys.proofs.laws.key_lengths.Goals as goal

pub returns : goal.returns
unfolding commit_key root_key commitment recipient_tag
returns c = record {
  commit_key_length = λ data_key message_id. length-hkdf data_key [] (codes "AWS_DBE_COMMIT_KEY" ++ message_id) 32;
  commit_key_bytes = λ data_key message_id. bytes-hkdf data_key [] (codes "AWS_DBE_COMMIT_KEY" ++ message_id) 32;
  root_key_length = λ data_key message_id. length-hkdf data_key [] (codes "AWS_DBE_DERIVE_KEY" ++ message_id) 32;
  root_key_bytes = λ data_key message_id. bytes-hkdf data_key [] (codes "AWS_DBE_DERIVE_KEY" ++ message_id) 32;
  commitment_length = λ data_key message_id before.
      let mac = hmac sha384 (commit_key data_key message_id) before in
      let within : 32 ≤ length mac = omega (arith, length-hmac384 (commit_key data_key message_id) before) in
      length-take-le 32 mac within;
  commitment_bytes = λ data_key message_id before.
      All-take (λ (b : ℕ). b < 256) 32 _ (bytes-hmac384 (commit_key data_key message_id) before);
  tag_length = λ signing text. length-hmac384 signing (sha384 text);
  tag_bytes = λ signing text. bytes-hmac384 signing (sha384 text);
}
