-- The keys of a sealed item, its commitment and its recipient tags (this project's own, over HKDF of RFC 5869 with
-- SHA-512 and no salt, and HMAC of RFC 2104 with SHA-384).
use Rattle.std.specs.Prelude.{ℕ, List, [], ◌++◌, codes, take}
use Rattle.dbe_kdf.specs.Hmac.{hmac}
use Rattle.dbe_kdf.specs.Hkdf.{hkdf}
use Rattle.sha2.specs.Sha512.{sha384}

-- what the commitment is made with, 32 bytes
unfoldable pub commit_key : List ℕ → List ℕ → List ℕ
commit_key data_key message_id = hkdf data_key [] (codes "AWS_DBE_COMMIT_KEY" ++ message_id) 32

-- what the keys of the fields are made with, 32 bytes
unfoldable pub root_key : List ℕ → List ℕ → List ℕ
root_key data_key message_id = hkdf data_key [] (codes "AWS_DBE_DERIVE_KEY" ++ message_id) 32

-- the 32 bytes that tie the header's bytes before them to the data key
unfoldable pub commitment : List ℕ → List ℕ → List ℕ → List ℕ
commitment data_key message_id before = take 32 (hmac sha384 (commit_key data_key message_id) before)

-- a recipient's tag of the record text, 48 bytes
unfoldable pub recipient_tag : List ℕ → List ℕ → List ℕ
recipient_tag signing record_text = hmac sha384 signing (sha384 record_text)

-- the keys of an item
pub record ItemKeysParts : Type 0 where
  pub commit : List ℕ
  pub root : List ℕ

abbrev pub item_keys : List ℕ → List ℕ → ItemKeysParts
item_keys data_key message_id =
    record { commit = commit_key data_key message_id; root = root_key data_key message_id }
