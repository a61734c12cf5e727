-- An encrypted data key (this project's own).
use Rattle.std.specs.Prelude.{ℕ, ◌≤◌, List, length}

-- who provides it, what the provider needs to know, and the data key under the provider's key
pub record EdkParts : Type 0 where
  pub provider : List ℕ
  pub info : List ℕ
  pub ciphertext : List ℕ

-- a length of two bytes
abbrev pub IsShort : List ℕ → Type 0
IsShort bytes = length bytes ≤ 65535

pub record IsEdk (edk : EdkParts) : Type 0 where
  pub provider : IsShort edk.provider
  pub info : IsShort edk.info
  pub ciphertext : IsShort edk.ciphertext
