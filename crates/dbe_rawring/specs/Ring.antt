-- Raw rings, this project's own: a data key wrapped for the owner of a key. The ring's key wraps an intermediate key
-- (GCM, SP 800-38D, section 7.1), and the intermediate key wraps the data key.
use Rattle.std.specs.Prelude.{◌≡◌, ℕ, ◌⊎◌, List, ◌++◌, length, take, drop}
use Rattle.dbe_gcm.specs.Gcm.{streamed}
use Rattle.dbe_rawring.specs.Edk.{EdkParts, IsShort}
use Rattle.dbe_rawring.specs.Wrap.{IsAuthentic, inner_wrap, signing_key, wrapped_key, wrapping_key, zero_iv}
use Rattle.dbe_rawring.specs.declared.fault.RingFault.{RingFault}
use Rattle.dbe_rawring.specs.declared.fault.RingFault.TheVariants as fault

pub record RawRingParts : Type 0 where
  pub namespace : List ℕ
  pub name : List ℕ
  pub key : List ℕ

pub record IsRawRing (ring : RawRingParts) : Type 0 where
  pub namespace : IsShort ring.namespace
  pub name : IsShort ring.name
  pub key : length ring.key ≡ 32

-- the drawn bytes are an intermediate key of 32 bytes and an IV of 12
abbrev pub intermediate_of : List ℕ → List ℕ
intermediate_of drawn = take 32 drawn

abbrev pub iv_of : List ℕ → List ℕ
iv_of drawn = drop 32 drawn

-- the IV, the intermediate key under the ring's key, and the data key under the intermediate key
unfoldable pub raw_ciphertext : List ℕ → List ℕ → List ℕ → List ℕ → List ℕ
raw_ciphertext key context data_key drawn =
    iv_of drawn ++ wrapped_key key (iv_of drawn) context (intermediate_of drawn)
    ++ inner_wrap (intermediate_of drawn) context data_key

-- a data key that the ring has wrapped
abbrev pub raw_edk : RawRingParts → List ℕ → List ℕ → List ℕ → EdkParts
raw_edk ring context data_key drawn = record {
  provider = ring.namespace;
  info = ring.name;
  ciphertext = raw_ciphertext ring.key context data_key drawn;
}

-- the ring unwraps this data key and signing key: for some drawn bytes it has wrapped them
pub record Unwraps (ring : RawRingParts) (context : List ℕ) (edk : EdkParts) (data_key signing : List ℕ) : Type 0 where
  pub drawn : List ℕ
  pub drawn_size : length drawn ≡ 44
  pub size : length data_key ≡ 32
  pub wraps : edk ≡ raw_edk ring context data_key drawn
  pub signs : signing ≡ signing_key (intermediate_of drawn)

-- the wrapped data key names the ring, and its ciphertext has the ring's size
pub record IsMine (ring : RawRingParts) (edk : EdkParts) : Type 0 where
  pub provider : edk.provider ≡ ring.namespace
  pub info : edk.info ≡ ring.name
  pub size : length edk.ciphertext ≡ 108

-- the parts of a ciphertext: the IV, the wrapped intermediate key, and the inner wrap
abbrev pub iv_part : List ℕ → List ℕ
iv_part ciphertext = take 12 ciphertext

abbrev pub outer_part : List ℕ → List ℕ
outer_part ciphertext = take 48 (drop 12 ciphertext)

abbrev pub inner_part : List ℕ → List ℕ
inner_part ciphertext = drop 60 ciphertext

-- the key that the first 32 bytes of a wrapped key decipher to (SP 800-38D, section 7.2)
abbrev pub deciphered : List ℕ → List ℕ → List ℕ → List ℕ
deciphered key iv wrapped = streamed key iv (take 32 wrapped)

-- the tag of the intermediate key is right
abbrev pub IsOuterAuthentic : List ℕ → List ℕ → List ℕ → Type 0
IsOuterAuthentic key context c = IsAuthentic key (iv_part c) context (outer_part c)

-- the tag of the data key is right, under the intermediate key
abbrev pub IsInnerAuthentic : List ℕ → List ℕ → List ℕ → Type 0
IsInnerAuthentic key context c =
    IsAuthentic (wrapping_key (deciphered key (iv_part c) (outer_part c))) zero_iv context (inner_part c)

-- why a ring does not unwrap a data key: it is not the ring's; it is, and one of the two tags differs
abbrev pub IsRingFault : RingFault → RawRingParts → List ℕ → EdkParts → Type 0
IsRingFault fault.NotMine ring context edk = ¬ IsMine ring edk
IsRingFault fault.NotAuthentic ring context edk = IsMine ring edk ×
    ((¬ IsOuterAuthentic ring.key context edk.ciphertext) ⊎ (¬ IsInnerAuthentic ring.key context edk.ciphertext))
