-- Hashers that have taken in the two blocks of an HMAC's key, and in the inner one also a text (RFC 2104, section 2).
use Rattle.std.specs.Prelude.{ℕ, List, ◌++◌}
use Rattle.sha2.specs.Hashers.{Holds384, Holds512}
use Rattle.sha2.specs.Sha512.{sha384, sha512}
use Rattle.dbe_kdf.specs.Hmac.{key_block, xor_pad}
use Rattle.dbe_kdf.specs.declared.keyed384.Keyed384.{Keyed384}
use Rattle.dbe_kdf.specs.declared.keyed512.Keyed512.{Keyed512}

-- an HMAC-SHA-384 in progress: its key, and its text so far
pub record IsKeyed384 (hashers : Keyed384) (key text : List ℕ) : Type 0 where
  pub inner : Holds384 hashers.inner (xor_pad 0x36 (key_block sha384 key) ++ text)
  pub outer : Holds384 hashers.outer (xor_pad 0x5c (key_block sha384 key))

-- the hashers of an HMAC-SHA-512 under this key, before any text
pub record IsKeyed512 (hashers : Keyed512) (key : List ℕ) : Type 0 where
  pub inner : Holds512 hashers.inner (xor_pad 0x36 (key_block sha512 key))
  pub outer : Holds512 hashers.outer (xor_pad 0x5c (key_block sha512 key))
