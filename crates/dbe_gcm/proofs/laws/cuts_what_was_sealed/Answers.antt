use Rattle.dbe_gcm.specs.Gcm.{gcm}
use Rattle.dbe_gcm.proofs.Ranges.{length-streamed, streamed-small, length-tag_of, tag_of-small}
use Rattle.dbe_gcm.proofs.Ranges.{take-joined, drop-joined}
use Rattle.dbe_gcm.proofs.laws.cuts_what_was_sealed.Goals as goal

pub returns : goal.returns
unfolding gcm
returns c = record {
  ciphertext_length = λ key iv aad text. length-streamed key iv text;
  tag_length = λ key iv aad text. length-tag_of key iv aad _;
  ciphertext_bytes = λ key iv aad text. streamed-small key iv text;
  tag_bytes = λ key iv aad text. tag_of-small key iv aad _;
  ciphertext = λ key iv aad text. take-joined _ _ _ (length-streamed key iv text);
  tag = λ key iv aad text. drop-joined _ _ _ (length-streamed key iv text);
}
