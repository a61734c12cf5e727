-- A data key under an intermediate key, this project's own. Keys are derived by HKDF with SHA-512 and no salt
-- (RFC 5869, section 2). A wrapped key is the ciphertext of GCM and its tag, joined (SP 800-38D, section 7.1).
use Rattle.std.specs.Prelude.{◌≡◌, ℕ, List, [], ◌++◌, codes, length, take, drop, replicate}
use Rattle.dbe_kdf.specs.Hkdf.{hkdf}
use Rattle.dbe_gcm.specs.Gcm.{gcm, tag_of}

-- a key wrapped under another: the ciphertext, and then the tag
unfoldable pub wrapped_key : List ℕ → List ℕ → List ℕ → List ℕ → List ℕ
wrapped_key key iv aad text = (gcm key iv aad text).ciphertext ++ (gcm key iv aad text).tag

-- a wrapped key of 32 bytes ends with the tag of its ciphertext (SP 800-38D, section 7.2)
abbrev pub IsAuthentic : List ℕ → List ℕ → List ℕ → List ℕ → Type 0
IsAuthentic key iv aad wrapped = drop 32 wrapped ≡ tag_of key iv aad (take 32 wrapped)

-- the key that wraps the data key, 32 bytes
unfoldable pub wrapping_key : List ℕ → List ℕ
wrapping_key intermediate = hkdf intermediate [] (codes "AWS_MPL_INTERMEDIATE_KEYWRAP_ENC") 32

-- the key that signs the item for this recipient, 48 bytes
unfoldable pub signing_key : List ℕ → List ℕ
signing_key intermediate = hkdf intermediate [] (codes "AWS_MPL_INTERMEDIATE_KEYWRAP_MAC") 48

-- the IV of an inner wrap; no intermediate key wraps two data keys
abbrev pub zero_iv : List ℕ
zero_iv = replicate 12 0

-- the inner wrap: the data key under the wrapping key, with the full context as associated data
unfoldable pub inner_wrap : List ℕ → List ℕ → List ℕ → List ℕ
inner_wrap intermediate context data_key = wrapped_key (wrapping_key intermediate) zero_iv context data_key

-- the inner wrap unwraps to this data key: it is the data key's
pub record UnwrapsInner (intermediate context wrapped data_key : List ℕ) : Type 0 where
  pub size : length data_key ≡ 32
  pub wraps : wrapped ≡ inner_wrap intermediate context data_key
